-- What the steps of reading a record back promise each other; no public promise leans on this file.
use Rattle.std.specs.Prelude.{List, ◌≡◌, ℕ, ◌+◌, ◌-◌, ◌*◌, ◌/◌, ◌<◌, length}
use Rattle.cd.specs.Arrays.{triangle}
use Rattle.cd.specs.Diagrams.{Stored, limit, between}
use Rattle.filing.specs.Diagrams.{IsNode}
use Rattle.filing.specs.Readable.{node_at, fraction_at}
use Rattle.filing.specs.Records.{nodes_length}
use Rattle.tables.specs.Tables.{IsPair}
use Rattle.readback.specs.declared.Edges.{Edges}

-- the first n nodes are nodes
abbrev pub NodesTo : List ℕ → ℕ → Type 0
NodesTo l n = (i : ℕ) → i < n → IsNode (node_at l i)

-- the pairs of n nodes, one after another, are edges in lowest terms
abbrev pub PairsTo : ℕ → List ℕ → ℕ → Type 0
PairsTo N l n = (k : ℕ) → k < n * (n - 1) / 2 → IsPair (fraction_at l (1 + nodes_length N + 8 * k))

-- pair places and their count show the stored edges
pub record Shows (es : List Stored) (e : Edges) : Type 0 where
  pub pairs : e.pairs ≡ triangle (between 1 es) limit
  pub count : e.count ≡ length es
