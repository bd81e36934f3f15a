-- Document 01, "Filing record", and demand 3: what a record tells of a diagram, and when a renumbering carries one diagram onto another.
use Rattle.std.specs.Prelude.{false, ◌≢◌, ◌≡◌, ℕ, zero, ◌^◌, ◌≤◌, ◌<◌}
use Rattle.std.specs.Float.{binary64}
use Rattle.std.specs.Float.Ieee.{nan_bits}
use Rattle.filing.specs.Fractions.{Fraction, SameFraction}
use Rattle.filing.specs.Numberings.{Numbering}

-- "kind (1 unringed, 2 ringed, 3 snub), then its value bits, the double's 64, all zero if unringed"
pub record Node : Type 0 where
  pub kind : ℕ
  pub bits : ℕ

-- The nodes are 0 to size − 1, and any two different ones have an edge, 2/1 where nothing joins them. What node and edge say of other numbers, and
-- edge of a number with itself, counts for nothing: "Loops are disregarded."
pub record Diagram : Type 0 where
  pub size : ℕ
  pub node : ℕ → Node
  pub edge : ℕ → ℕ → Fraction

-- ---- demand 3's sentence

-- some renumbering carries one text's diagram onto the other's (same number of nodes; each node sent to one of the same kind and 64 value bits; every
-- two different nodes joined by a fraction equal to the one between the nodes they are sent to, a missing edge counting as 2/1)
pub record Carries (d e : Diagram) (f : ℕ → ℕ) : Type 0 where
  pub size : d.size ≡ e.size
  pub numbering : Numbering d.size f
  pub nodes : (i : ℕ) → i < d.size → d.node i ≡ e.node (f i)
  pub edges : (i j : ℕ) → i < d.size → j < d.size → i ≢ j → SameFraction (d.edge i j) (e.edge (f i) (f j))

abbrev pub Iso : Diagram → Diagram → Type 0
Iso d e = (f : ℕ → ℕ) × Carries d e f

-- ---- which are diagrams

-- "Diagrams here may hold any value but nan."
pub record IsNode (v : Node) : Type 0 where
  pub kind_low : 1 ≤ v.kind
  pub kind_high : v.kind ≤ 3
  pub bits_fit : v.bits < 2 ^ 64
  pub number : nan_bits binary64 v.bits ≡ false
  pub unringed : v.kind ≡ 1 → v.bits ≡ 0

-- "An edge has two 32-bit unsigned numbers, num and den, with num > 1, den not 0, den < num."
pub record IsEdge (x : Fraction) : Type 0 where
  pub fits : x.num < 2 ^ 32
  pub den_pos : zero < x.den
  pub above_one : x.den < x.num

-- at most N nodes
pub record IsDiagram (N : ℕ) (d : Diagram) : Type 0 where
  pub few : d.size ≤ N
  pub nodes : (i : ℕ) → i < d.size → IsNode (d.node i)
  pub edges : (i j : ℕ) → i < d.size → j < d.size → i ≢ j → IsEdge (d.edge i j)
  pub symmetric : (i j : ℕ) → i < d.size → j < d.size → i ≢ j → d.edge i j ≡ d.edge j i
