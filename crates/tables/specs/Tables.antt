-- The tables that hold a diagram, as the code's steps speak of them: of n nodes the kinds, the value bits and, for two nodes u and v at N × u + v, the number
-- that their pair's eight bytes spell. N is the limit of nodes, a letter in every law: so laws speak of `Entries`, of any number of nodes, where `Tables`, the
-- code's, has nine at most. No public promise leans on this file.
use Rattle.std.specs.Prelude.{false, List, ◌∷◌, ◌++◌, ◌≢◌, ◌≡◌, ℕ, ◌+◌, ◌*◌, ◌^◌, ◌<◌, eqb, get_or}
use Rattle.std.specs.Float.Ieee.{is_nan}
use Rattle.float.specs.Pick.{pick}
use Rattle.cd.specs.Diagrams.{limit, none, place, place_of}
use Rattle.cd.specs.Edges.{fraction}
use Rattle.cd.specs.declared.Node.{Node}
use Rattle.cd.specs.declared.Node.TheVariants.{Unringed, Ringed, Snub}
use Rattle.cd.specs.declared.Pair.{Pair}
use Rattle.cd.specs.declared.Place.{Place}
use Rattle.filing.specs.Bytes.{bytes, blocks, filled}
use Rattle.filing.specs.Diagrams.{Diagram, IsEdge, IsDiagram}
use Rattle.filing.specs.Diagrams as filing
use Rattle.filing.specs.Fractions.{Fraction, lowest}
use Rattle.filing.specs.Numberings.{at}
use Rattle.filing.specs.Records.{nodes_length, pairs_length}
use Rattle.tables.specs.Diagrams.{two}
use Rattle.tables.specs.declared.entries.Tables.{Tables}

-- the node's value is not nan
abbrev pub IsNumber : Node → Type 0
IsNumber Unringed = Unit {0}
IsNumber (Ringed v) = is_nan v ≡ false
IsNumber (Snub v) = is_nan v ≡ false

-- the values in node places are not nan
abbrev pub Numbers : List Place → Type 0
Numbers ps = (i : ℕ) → i < limit → IsNumber (get_or ps i (place Unringed)).node

-- a fraction in lowest terms, an edge in them, and a diagram whose edges are
abbrev pub IsLowest : Fraction → Type 0
IsLowest x = lowest x ≡ x

abbrev pub IsPair : Fraction → Type 0
IsPair x = IsEdge x × IsLowest x

pub record IsKept (N : ℕ) (d : Diagram) : Type 0 where
  pub is : IsDiagram N d
  pub lowest_terms : (i j : ℕ) → i < d.size → j < d.size → i ≢ j → IsLowest (d.edge i j)

-- the number that eight bytes spell, four of num and four of den; in a record they are those of the lowest terms
unfoldable pub spelt : Fraction → ℕ
spelt x = x.num * 2 ^ 32 + x.den

unfoldable pub number : Fraction → ℕ
unfolding spelt lowest
number x = spelt (lowest x)

-- of a pair's place, as it stands: an edge has a den above 0
unfoldable pub pair_number : Pair → ℕ
unfolding spelt
pair_number p = pick (eqb p.edge.den 0) (spelt two) (spelt (fraction p.edge))

-- in a table of N × N places, the numbers of the pairs of n nodes
abbrev pub PairTable : ℕ → ℕ → List Pair → List ℕ → Type 0
PairTable N n ps r = (i j : ℕ) → i < n → j < N → at r (N * i + j) ≡ pair_number (get_or ps (place_of i j) none)

-- what tables hold, of any number of nodes
pub record Entries : Type 0 where
  pub count : ℕ
  pub kinds : List ℕ
  pub bits : List ℕ
  pub pairs : List ℕ

-- what the code's tables hold
abbrev pub entries : Tables → Entries
entries t = record { count = t.count; kinds = t.kinds; bits = t.bits; pairs = t.pairs }

-- the entries fit their bytes
pub record Fits (t : Entries) : Type 0 where
  pub kinds : (i : ℕ) → at t.kinds i < 256
  pub bits : (i : ℕ) → at t.bits i < 2 ^ 64
  pub pairs : (i : ℕ) → at t.pairs i < 2 ^ 64

-- the node that tables hold
abbrev pub node_at : Entries → ℕ → filing.Node
node_at t i = record { kind = at t.kinds i; bits = at t.bits i }

-- the tables hold a diagram
pub record Holds (N : ℕ) (t : Entries) (d : Diagram) : Type 0 where
  pub count : t.count ≡ d.size
  pub kinds : (i : ℕ) → i < d.size → at t.kinds i ≡ (d.node i).kind
  pub bits : (i : ℕ) → i < d.size → at t.bits i ≡ (d.node i).bits
  pub pairs : (i j : ℕ) → i < d.size → j < d.size → i ≢ j → at t.pairs (N * i + j) ≡ number (d.edge i j)

-- ---- the layout of tables under a numbering

unfoldable pub table_node : Entries → ℕ → List ℕ
unfolding bytes
table_node t v = at t.kinds v ∷ bytes 8 (at t.bits v)

unfoldable pub table_nodes : Entries → (ℕ → ℕ) → ℕ → List ℕ
unfolding table_node blocks
table_nodes t p n = blocks (λ i. table_node t (p i)) n

unfoldable pub table_row : ℕ → Entries → (ℕ → ℕ) → ℕ → List ℕ
unfolding bytes blocks
table_row N t p j = blocks (λ i. bytes 8 (at t.pairs (N * p i + p j))) j

unfoldable pub table_pairs : ℕ → Entries → (ℕ → ℕ) → ℕ → List ℕ
unfolding table_row blocks
table_pairs N t p n = blocks (table_row N t p) n

unfoldable pub table_layout : ℕ → Entries → (ℕ → ℕ) → List ℕ
unfolding table_nodes table_pairs filled
table_layout N t p = t.count ∷ (filled (nodes_length N) (table_nodes t p t.count) ++ filled (pairs_length N) (table_pairs N t p t.count))
