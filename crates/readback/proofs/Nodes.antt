-- When a kind and 64 bits are a node's, and the node that they are, kind by kind; and the nodes of a record in an array, one after another. Assumes nothing.
use mathlib.Core.Bool.{false, not}
use mathlib.Core.List.{List, [], ◌∷◌, ◌++◌, map, map-append}
use mathlib.Core.Logic.{◌≢◌}
use mathlib.Core.Path.{◌≡◌, refl, ap, ◌∙◌}
use Prim.Native.Nat.{ℕ, ◌+◌, ◌*◌, ◌%◌, ◌^◌, ◌≤◌, ◌<◌}
use native.Mathlib.Decide.{dec_lt}
use native.Mathlib.Numerals.{add-one}
use native.Mathlib.Omega.{arith}
use borrow.Author.Tests.{eqb-true, not-true, lt-ltb, le-ltb, lt-leb, le-leb, eq-eqb, ne_eqb}
use lib.Dec.{leb, ltb, eqb}
use lib.Ieee.{binary64, nan_bits, of_bits}
use lib.Ieee.Bits.{nan_bits_above}
use lib.ListN.{length, get_or, set, length-map}
use Rattle.cd.specs.Arrays.{padded}
use Rattle.cd.specs.Diagrams.{place}
use Rattle.cd.specs.Minimal.{Decides}
use Rattle.cd.specs.declared.Node.TheVariants.{Unringed, Ringed, Snub}
use Rattle.cd.proofs.Arrays.{set_padded}
use Rattle.filing.specs.Bytes.{blocks}
use Rattle.filing.specs.Diagrams.{IsNode}
use Rattle.filing.specs.Diagrams as filing
use Rattle.filing.specs.Readable.{number_at, node_at}
use Rattle.filing.specs.Records.{node_length}
use Rattle.filing.proofs.Bytes.{length_singles}
use Rattle.readback.specs.Spelled.{node, nodes_to}
use Rattle.cd.proofs.Decided.{decides_no}

-- ---- whether bits are a number's

leb_not : (a b : ℕ) → leb a b ≡ not (ltb b a)
leb_not a b = elim (dec_lt b a) [
  | yes l ↦ rw (lt-leb a b l, lt-ltb b a l)
  | no l ↦ let h : a ≤ b = omega arith in rw (le-leb a b h, le-ltb b a h)
]

pub number_bits : (b : ℕ) → leb (b % 0x8000_0000_0000_0000) 0x7ff0_0000_0000_0000 ≡ not (nan_bits binary64 b)
number_bits b = rw (nan_bits_above binary64 b) (leb_not (b % 0x8000_0000_0000_0000) 0x7ff0_0000_0000_0000)

-- ---- which are nodes

zero_no_nan : nan_bits binary64 0 ≡ false
unfolding nan_bits
zero_no_nan = refl

module _ (v : filing.Node) where
  pub decides_unringed : v.kind ≡ 1 → Decides (IsNode v) (eqb v.bits 0)
  decides_unringed k = record { only_when = λ e. holds (eqb-true v.bits 0 e); when = λ w. eq-eqb v.bits 0 (w.unringed k) }
    where
      holds : v.bits ≡ 0 → IsNode v
      holds e = record { kind_low = omega arith; kind_high = omega arith; bits_fit = omega arith; number = rw e zero_no_nan; unringed = λ _. e }

  pub decides_valued : v.bits < 2 ^ 64 → 1 < v.kind → v.kind < 4 → Decides (IsNode v) (not (nan_bits binary64 v.bits))
  decides_valued f low high = record { only_when = λ e. holds (not-true (nan_bits binary64 v.bits) e); when = λ w. rw w.number }
    where
      holds : nan_bits binary64 v.bits ≡ false → IsNode v
      holds e = record { kind_low = omega arith; kind_high = omega arith; bits_fit = f; number = e; unringed = λ one. omega arith }

  pub decides_none : (0 < v.kind → v.kind < 4 → ⊥) → Decides (IsNode v) false
  decides_none h = decides_no (λ w. h (omega (arith, w.kind_low)) (omega (arith, w.kind_high)))

  -- ---- which node

  pub node_unringed : v.kind ≡ 1 → Unringed ≡ node v
  unfolding node
  node_unringed k = rw k

  pub node_ringed : v.kind ≡ 2 → Ringed (of_bits binary64 v.bits) ≡ node v
  unfolding node
  node_ringed k = rw k

  pub node_snub : v.kind ≢ 1 → v.kind ≢ 2 → Snub (of_bits binary64 v.bits) ≡ node v
  unfolding node
  node_snub a b = rw (ne_eqb v.kind 1 a, ne_eqb v.kind 2 b)

-- ---- the nodes of a record

-- kind and value bits as they are read
pub kind_read : (l : List ℕ) (i : ℕ) → get_or l (1 + node_length * i) 0 ≡ (node_at l i).kind
unfolding node_at
kind_read l i = refl

pub bits_read : (l : List ℕ) (i : ℕ) → number_at 8 l (2 + node_length * i) ≡ (node_at l i).bits
unfolding node_at
bits_read l i = let e : 2 + node_length * i ≡ 1 + node_length * i + 1 = omega arith in ap (number_at 8 l) e

pub length_nodes_to : (l : List ℕ) (n : ℕ) → length (nodes_to l n) ≡ n
unfolding nodes_to
length_nodes_to l n = length_singles (λ i. node (node_at l i)) n

pub nodes_none : (l : List ℕ) → nodes_to l 0 ≡ []
unfolding nodes_to blocks
nodes_none l = refl

nodes_one_more : (l : List ℕ) (i : ℕ) → nodes_to l (i + 1) ≡ nodes_to l i ++ (node (node_at l i) ∷ [])
unfolding nodes_to blocks
nodes_one_more l i = rw (add-one i)

pub nodes_next : (N : ℕ) (l : List ℕ) (i : ℕ) → i < N
    → set (padded (place Unringed) N (map place (nodes_to l i))) i (place (node (node_at l i))) ≡ padded (place Unringed) N (map place (nodes_to l (i + 1)))
nodes_next N l i h =
    let long : length (map place (nodes_to l i)) ≡ i = length-map (nodes_to l i) place ∙ length_nodes_to l i in
    rw (nodes_one_more l i, map-append place (nodes_to l i) (node (node_at l i) ∷ []))
    (rw long at (set_padded (place Unringed) (place (node (node_at l i))) N (map place (nodes_to l i)) (omega arith)))
