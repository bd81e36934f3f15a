-- The first node with an infinite value: each node before it is passed, and counting from one more gives one more. It is the first place of an infinite value
-- in the array of them. Assumes nothing.
use mathlib.Core.Bool.{Bool, true, false, not, cond}
use mathlib.Core.List.{List, [], ◌∷◌, map}
use mathlib.Core.Path.{◌≡◌, refl, sym, ap, ap₂, ◌∙◌, subst}
use Prim.Native.Nat.{ℕ, zero, suc, ◌+◌, ◌<◌, ◌≤◌}
use native.Mathlib.Nat.{suc-add, not-suc-le-zero, le_of_suc-le-suc}
use native.Mathlib.Omega.{arith}
use lib.Dec.{ltb}
use lib.Ieee.{Float}
use lib.ListN.{length, take, length-map}
use Rattle.std.proofs.lemmas.List.{same_lists, get_or-map}
use Rattle.std.specs.List.{position, position_or_len}
use Rattle.std.specs.Prelude.{Some, None}
use Rattle.cd.specs.Diagrams.{limit}
use Rattle.cox.specs.Squares.{flat}
use Rattle.cox.proofs.Flats.{length_flat, flat_at, flat_front}
use Rattle.float.specs.Pick.{pick}
use Rattle.cd.specs.declared.Node.{Node}
use Rattle.cd.specs.declared.Node.TheVariants.{Unringed}
use Rattle.generator.specs.Generator.{value, values, is_infinite, first_infinite}

-- ---- what the first is

-- node k is the first of ns whose value is infinite; or there is none, and k is their number
pub record IsFirst (ns : List Node) (k : ℕ) : Type 0 where
  pub bounded : k ≤ length ns
  pub infinite : k < length ns → is_infinite (values ns k) ≡ true
  pub before : (i : ℕ) → i < k → is_infinite (values ns i) ≡ false
  pub none : k ≡ length ns → (i : ℕ) → i < length ns → is_infinite (values ns i) ≡ false

-- counting from one more gives one more
suc_picked : (t : Bool) (x y : ℕ) → suc (pick t x y) ≡ pick t (suc x) (suc y)
suc_picked true x y = refl
suc_picked false x y = refl

counted : (ns : List Node) (k : ℕ) → first_infinite ns (suc k) ≡ suc (first_infinite ns k)
unfolding first_infinite
counted [] k = refl
counted (n ∷ ns) k =
    ap (λ j. pick (is_infinite (value n)) (suc k) (first_infinite ns j)) (suc-add k 1)
    ∙ ap (pick (is_infinite (value n)) (suc k)) (counted ns (k + 1))
    ∙ sym (suc_picked (is_infinite (value n)) k (first_infinite ns (k + 1)))

-- the first is the first node of all, or one after it
first_at : (n : Node) (ns : List Node) → is_infinite (value n) ≡ true → IsFirst (n ∷ ns) 0
unfolding values
first_at n ns e = record { bounded = omega arith; infinite = λ h. e; before = λ i h. absurd (not-suc-le-zero h); none = λ z. absurd (not_none z) }
  where
    not_none : 0 ≡ suc (length ns) → ⊥
    not_none z = omega arith

first_after : (n : Node) (ns : List Node) (k : ℕ) → is_infinite (value n) ≡ false → IsFirst ns k → IsFirst (n ∷ ns) (suc k)
unfolding values
first_after n ns k e f =
    record {
      bounded = omega (arith, f.bounded);
      infinite = λ h. f.infinite (le_of_suc-le-suc h);
      before = passed;
      none = λ z i h. passed i (omega arith);
    }
  where
    passed : (i : ℕ) → i < suc k → is_infinite (values (n ∷ ns) i) ≡ false
    passed zero h = e
    passed (suc i) h = f.before i (le_of_suc-le-suc h)

first : (n : Node) (ns : List Node) (t : Bool) → is_infinite (value n) ≡ t → IsFirst ns (first_infinite ns 0) → IsFirst (n ∷ ns) (pick t 0 (suc (first_infinite ns 0)))
first n ns true e f = first_at n ns e
first n ns false e f = first_after n ns (first_infinite ns 0) e f

pub first_infinite_below : (ns : List Node) → IsFirst ns (first_infinite ns 0)
unfolding first_infinite
first_infinite_below [] = record { bounded = omega arith; infinite = λ h. absurd (not-suc-le-zero h); before = λ i h. absurd (not-suc-le-zero h); none = λ z i h. absurd (not-suc-le-zero h) }
first_infinite_below (n ∷ ns) =
    subst (λ k. IsFirst (n ∷ ns) (pick (is_infinite (value n)) 0 k)) (sym (counted ns 0)) (first n ns (is_infinite (value n)) refl (first_infinite_below ns))

-- ---- the first among the values in their array

first_by : (t : Bool) (p k : ℕ) → p ≡ k → cond (not t) (1 + p) 0 ≡ pick t 0 (suc k)
first_by true p k e = refl
first_by false p k e = omega arith

first_value : (ns : List Node) → position_or_len is_infinite (map value ns) ≡ first_infinite ns 0
unfolding first_infinite
first_value [] = refl
first_value (n ∷ ns) = first_by (is_infinite (value n)) _ _ (first_value ns) ∙ ap (pick (is_infinite (value n)) 0) (sym (counted ns 0))

value_list : (ns : List Node) → flat (length ns) (values ns) ≡ map value ns
unfolding values
value_list ns =
    same_lists _ _ (length_flat (length ns) (values ns) ∙ sym (length-map ns value)) (λ i d h.
    let inside : i < length ns = omega (arith, length_flat (length ns) (values ns)) in
    flat_at (length ns) (values ns) d i inside ∙ sym (get_or-map value ns i Unringed d inside))

picked : {A : Type 0} (t : Bool) (x y : A) → cond t x y ≡ pick t x y
picked true x y = refl
picked false x y = refl

-- the place that the code tells is the definition's, where that is a node's
pub first_found : (ns : List Node) (n : ℕ) (vs : List Float) → n ≡ length ns → n ≤ limit → vs ≡ flat limit (values ns)
    → position is_infinite (take n vs) ≡ pick (ltb (first_infinite ns 0) n) (Some (first_infinite ns 0)) None
first_found ns n vs e h w =
    ap (λ xs. position is_infinite (take n xs)) w
    ∙ ap (position is_infinite) (flat_front limit (values ns) n h ∙ ap (λ k. flat k (values ns)) e ∙ value_list ns)
    ∙ ap₂ (λ k l. cond (ltb k l) (Some k) None) (first_value ns) (length-map ns value ∙ sym e)
    ∙ picked (ltb (first_infinite ns 0) n) (Some (first_infinite ns 0)) None

pub found_node : (t : Bool) (k i : ℕ) → pick t (Some k) None ≡ Some i → (t ≡ true) × (k ≡ i)
found_node true k i e = (refl, cc)
found_node false k i e = cc

pub found_none : (t : Bool) (k : ℕ) → pick t (Some k) None ≡ None → t ≡ false
found_none true k e = cc
found_none false k e = refl
