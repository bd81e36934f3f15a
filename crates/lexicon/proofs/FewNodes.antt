-- The record of at most two nodes. One node, or none, has one numbering, up to what it says past the nodes; two nodes have two, as they stand and exchanged.
-- A layout depends on a numbering's first places alone, so the record is the smaller of at most two layouts, which a test finds. Assumes nothing.
use Prim.Native.Nat.{ℕ, zero, suc, ◌-◌, ◌≤◌, ◌<◌}
use mathlib.Core.Bool.{Bool, true, false, ◌&&◌, ◌||◌, true≢false}
use mathlib.Core.List.{List, [], ◌∷◌}
use mathlib.Core.Logic.{◌≢◌, ◌⊎◌, inl, inr}
use mathlib.Core.Path.{◌≡◌, refl, sym, ◌∙◌, subst}
use native.Mathlib.Decide.{dec_lt}
use native.Mathlib.Omega.{arith}
use borrow.Author.Tests.{ltb-true, eqb-true}
use lib.Dec.{ltb, eqb}
use Rattle.cd.specs.Diagrams.{limit}
use Rattle.filing.specs.Bytes.{◌≼◌, ends, less, same}
use Rattle.filing.specs.Diagrams.{Diagram}
use Rattle.filing.specs.Numberings.{Numbering}
use Rattle.filing.specs.Records.{layout, IsRecord}
use Rattle.filing.proofs.Layouts.{layout_local}
use Rattle.filing.proofs.Order.{≼_refl}

-- ---- byte order, as a test

unfoldable pub no_greater : List ℕ → List ℕ → Bool
no_greater [] ys = true
no_greater (x ∷ xs) [] = false
no_greater (x ∷ xs) (y ∷ ys) = let r = no_greater xs ys in ltb x y || (eqb x y && r)

by_first : {x y : ℕ} {xs ys : List ℕ} (l e r : Bool) → (l ≡ true → x < y) → (e ≡ true → x ≡ y) → (r ≡ true → xs ≼ ys)
    → (l || (e && r)) ≡ true → (x ∷ xs) ≼ (y ∷ ys)
by_first true e r f g k h = less (f refl)
by_first false true r f g k h = same (g refl) (k h)
by_first false false r f g k h = absurd (true≢false (sym h))

no_greater_lem : (xs ys : List ℕ) → no_greater xs ys ≡ true → xs ≼ ys
unfolding no_greater
no_greater_lem [] ys h = ends
no_greater_lem (x ∷ xs) [] h = absurd (true≢false (sym h))
no_greater_lem (x ∷ xs) (y ∷ ys) h = by_first (ltb x y) (eqb x y) (no_greater xs ys) (ltb-true x y) (eqb-true x y) (no_greater_lem xs ys) h

-- ---- the two numberings of two nodes

abbrev pub unchanged : ℕ → ℕ
unchanged i = i

abbrev pub exchanged : ℕ → ℕ
exchanged i = 1 - i

pub exchange : Numbering 2 exchanged
exchange = record { within = λ i h. omega arith; apart = λ i j h k e. omega arith }

-- q is p at the first two places
abbrev Is : (p q : ℕ → ℕ) → Type 0
Is p q = (i : ℕ) → i < 2 → p i ≡ q i

at_both : (p q : ℕ → ℕ) → p 0 ≡ q 0 → p 1 ≡ q 1 → Is p q
at_both p q a b zero h = a
at_both p q a b (suc zero) h = b
at_both p q a b (suc (suc i)) h = absurd (omega arith)

one_of_two : (q : ℕ → ℕ) → Numbering 2 q → Is unchanged q ⊎ Is exchanged q
one_of_two q n = go (dec_lt (q 0) 1) (n.within 0 (omega arith)) (n.within 1 (omega arith)) apart
  where
    apart : q 0 ≢ q 1
    apart e = let z : ◌≡◌ {A = ℕ} 0 1 = n.apart 0 1 (omega arith) (omega arith) e in omega arith

    go : Dec (q 0 < 1) → q 0 < 2 → q 1 < 2 → q 0 ≢ q 1 → Is unchanged q ⊎ Is exchanged q
    go (yes l) a b ne = inl (at_both unchanged q (omega arith) (omega arith))
    go (no l) a b ne = inr (at_both exchanged q (omega arith) (omega arith))

-- ---- the record of at most one node, and of two

module _ {d : Diagram} {bs : List ℕ} {p : ℕ → ℕ} (valid : Numbering d.size p) (laid : bs ≡ layout limit d p) where
  pub only_layout : d.size ≤ 1 → IsRecord limit d bs
  only_layout few = record { numbering = p; valid = valid; laid = laid; least = least }
    where
      least : (q : ℕ → ℕ) → Numbering d.size q → bs ≼ layout limit d q
      least q n = subst (λ l. bs ≼ l) (laid ∙ layout_local limit d p q (λ i h. omega (arith, valid.within i h, n.within i h))) (≼_refl bs)

  pub least_of_two : d.size ≡ 2 → no_greater bs (layout limit d unchanged) ≡ true → no_greater bs (layout limit d exchanged) ≡ true → IsRecord limit d bs
  least_of_two two a b = record { numbering = p; valid = valid; laid = laid; least = λ q n. least q (one_of_two q (rw two at n)) }
    where
      least : (q : ℕ → ℕ) → Is unchanged q ⊎ Is exchanged q → bs ≼ layout limit d q
      least q (inl h) = subst (λ l. bs ≼ l) (layout_local limit d unchanged q (rw two h)) (no_greater_lem _ _ a)
      least q (inr h) = subst (λ l. bs ≼ l) (layout_local limit d exchanged q (rw two h)) (no_greater_lem _ _ b)
