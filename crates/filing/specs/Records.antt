-- Document 01, "Filing record": the layout of a diagram under a numbering, and the record.
use Rattle.std.specs.Prelude.{List, ◌∷◌, ◌++◌, ◌≡◌, ℕ, ◌+◌, ◌-◌, ◌*◌}
use Rattle.filing.specs.Bytes.{bytes, blocks, filled, ◌≼◌}
use Rattle.filing.specs.Diagrams.{Node, Diagram}
use Rattle.filing.specs.Fractions.{Fraction, lowest}
use Rattle.filing.specs.Numberings.{Numbering}

-- "Node i, 9 bytes": its kind and the 8 of its value
abbrev pub node_length : ℕ
node_length = 9

-- the bytes of N nodes, and of their N × (N − 1) / 2 pairs, 8 each
abbrev pub nodes_length : ℕ → ℕ
nodes_length N = node_length * N

abbrev pub pairs_length : ℕ → ℕ
pairs_length N = 4 * N * (N - 1)

-- 370 for 9 nodes
abbrev pub record_length : ℕ → ℕ
record_length N = 1 + nodes_length N + pairs_length N

-- "kind .., then its value bits"
unfoldable pub node_bytes : Node → List ℕ
unfolding bytes
node_bytes v = v.kind ∷ bytes 8 v.bits

-- "8 bytes ..: num and den divided by their greatest common divisor"
unfoldable pub pair_bytes : Fraction → List ℕ
unfolding bytes lowest
pair_bytes x = bytes 4 (lowest x).num ++ bytes 4 (lowest x).den

-- the first n places, p i being the node at place i
unfoldable pub nodes_of : Diagram → (ℕ → ℕ) → ℕ → List ℕ
unfolding node_bytes blocks
nodes_of d p n = blocks (λ i. node_bytes (d.node (p i))) n

-- "Pair i < j, .. at 82 + 8×(j×(j−1)/2 + i)": the pairs of place j with the places before it, and those of the first n places
unfoldable pub row_of : Diagram → (ℕ → ℕ) → ℕ → List ℕ
unfolding pair_bytes blocks
row_of d p j = blocks (λ i. pair_bytes (d.edge (p i) (p j))) j

unfoldable pub pairs_of : Diagram → (ℕ → ℕ) → ℕ → List ℕ
unfolding row_of blocks
pairs_of d p n = blocks (row_of d p) n

-- "Byte 0: node count n", the nodes, the pairs
unfoldable pub layout : ℕ → Diagram → (ℕ → ℕ) → List ℕ
unfolding nodes_of pairs_of filled
layout N d p = d.size ∷ (filled (nodes_length N) (nodes_of d p d.size) ++ filled (pairs_length N) (pairs_of d p d.size))

-- "Of all renumberings the record is the smallest in byte order"
pub record IsRecord (N : ℕ) (d : Diagram) (bs : List ℕ) : Type 0 where
  pub numbering : ℕ → ℕ
  pub valid : Numbering d.size numbering
  pub laid : bs ≡ layout N d numbering
  pub least : (q : ℕ → ℕ) → Numbering d.size q → bs ≼ layout N d q
