-- Document 01, "Filing record": "A record is read back to its diagram, in the record's own numbering, and that diagram's record is the same bytes."
use Rattle.std.specs.Prelude.{List, ◌≡◌, ℕ, ◌+◌, ◌-◌, ◌*◌, ◌/◌, min, max, get_or, take, drop}
use Rattle.filing.specs.Bytes.{value}
use Rattle.filing.specs.Diagrams.{Node, Diagram, IsDiagram}
use Rattle.filing.specs.Fractions.{Fraction}
use Rattle.filing.specs.Numberings.{Numbering}
use Rattle.filing.specs.Records.{node_length, nodes_length, layout, IsRecord}

-- bytes that can be read: some diagram of at most N nodes has them for its record
abbrev pub Readable : ℕ → List ℕ → Type 0
Readable N l = (d : Diagram) × IsDiagram N d × IsRecord N d l

-- Document 02, ticket K5: "what the filing section lays out for any diagram in any numbering": some diagram of at most N nodes and some numbering have these
-- bytes as their layout
pub record LaidOut (N : ℕ) (l : List ℕ) : Type 0 where
  pub of : Diagram
  pub is : IsDiagram N of
  pub numbering : ℕ → ℕ
  pub valid : Numbering of.size numbering
  pub laid : l ≡ layout N of numbering

-- ---- the diagram that bytes spell

-- the number in w bytes at place k
unfoldable pub number_at : ℕ → List ℕ → ℕ → ℕ
unfolding value
number_at w l k = value (take w (drop k l))

-- "Node i, 9 bytes at 1 + 9×i"
unfoldable pub node_at : List ℕ → ℕ → Node
unfolding number_at
node_at l i = let k = 1 + node_length * i in record { kind = get_or l k 0; bits = number_at 8 l (k + 1) }

-- "Pair i < j, 8 bytes at 82 + 8×(j×(j−1)/2 + i)", in either order
unfoldable pub pair_place : ℕ → ℕ → ℕ → ℕ
pair_place N i j = 1 + nodes_length N + 8 * (max i j * (max i j - 1) / 2 + min i j)

unfoldable pub fraction_at : List ℕ → ℕ → Fraction
unfolding number_at
fraction_at l k = record { num = number_at 4 l k; den = number_at 4 l (k + 4) }

unfoldable pub spelled : ℕ → List ℕ → Diagram
unfolding node_at fraction_at pair_place
spelled N l = record { size = get_or l 0 0; node = node_at l; edge = λ i j. fraction_at l (pair_place N i j) }
