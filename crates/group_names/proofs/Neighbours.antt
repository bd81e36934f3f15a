-- Neighbours in a name's diagram: which nodes a number other than 2 joins, and which numbers these are. Assumes nothing.
use mathlib.Core.Bool.{Bool, true, false}
use mathlib.Core.Logic.{◌≢◌, ◌⊎◌, inl, inr}
use mathlib.Core.Path.{◌≡◌, refl, sym, ap, ap₂, ◌∙◌}
use Prim.Native.Nat.{ℕ, zero, suc, ◌+◌, ◌≤◌, ◌<◌}
use native.Mathlib.Decide.{ℕ_discrete, dec_lt}
use native.Mathlib.Omega.{arith}
use borrow.Author.Tests.{eq-eqb, ne_eqb}
use lib.Dec.{eqb}
use Rattle.float.specs.Pick.{pick}
use Rattle.group_names.specs.Names.{is_name, entry}
use Rattle.group_names.specs.declared.Name.{Name}
use Rattle.group_names.proofs.Entries.{entry_symmetric}
use Rattle.group_names.proofs.Shapes.{next, tree, IsShape, chained, forked, branched, centred, branch, start, label, name_shape, entry_tree}

-- ---- neighbours

-- i and j are neighbours where node 0 is joined to b and each other node to the next
pub data Adjacent (b i j : ℕ) : Type 0 where
  hang : i ≡ 0 → j ≡ b → Adjacent b i j
  hung : j ≡ 0 → i ≡ b → Adjacent b i j
  beside : 1 ≤ i → 1 ≤ j → i ≤ j + 1 → j ≤ i + 1 → i ≢ j → Adjacent b i j

turned : {b i j : ℕ} → Adjacent b i j → Adjacent b j i
turned (hang p q) = hung p q
turned (hung p q) = hang p q
turned (beside p q h k n) = beside q p k h (λ e. n (sym e))

-- i < j is joined by a number that is not 2
rising_adjacent : (b s l i j : ℕ) → i < j → tree b s l i j ≢ 2 → Adjacent b i j
unfolding tree next
rising_adjacent b s l zero j h n = go (ℕ_discrete j b)
  where
    go : Dec (j ≡ b) → Adjacent b zero j
    go (yes e) = hang refl e
    go (no o) = absurd (n (rw (ne_eqb j b o)))
rising_adjacent b s l (suc i) j h n = go (ℕ_discrete j (suc (suc i)))
  where
    go : Dec (j ≡ suc (suc i)) → Adjacent b (suc i) j
    go (yes e) = beside (omega arith) (omega arith) (omega arith) (omega arith) (λ z. omega arith)
    go (no o) = absurd (n (rw (ne_eqb j (suc (suc i)) o)))

tree_next : (b s l i : ℕ) → tree b s l i (next b i) ≡ pick (eqb i s) l 3
unfolding tree
tree_next b s l i = rw (eq-eqb (next b i) (next b i) refl)

next_later : (b i : ℕ) → 1 ≤ i → next b i ≡ i + 1
unfolding next
next_later b zero h = absurd (omega arith)
next_later b (suc i) h = omega arith

next_first : (b : ℕ) → next b 0 ≡ b
unfolding next
next_first b = refl

at_least : (t : Bool) (l : ℕ) → 3 ≤ l → 3 ≤ pick t l 3
at_least true l h = h
at_least false l h = omega arith

one_of : (t : Bool) (l x : ℕ) → x ≡ pick t l 3 → (x ≡ 3) ⊎ (x ≡ l)
one_of true l x e = inr e
one_of false l x e = inl e

shape_heavy : {n b s l : ℕ} → IsShape n b s l → 3 ≤ l
shape_heavy (chained _ _ _ h _) = h
shape_heavy (forked _ _ _ e) = omega arith
shape_heavy (branched _ _ _ e) = omega arith
shape_heavy (centred _ _ _ e) = omega arith

shape_later : {n b s l : ℕ} → IsShape n b s l → 1 ≤ b
shape_later (chained _ e _ _ _) = omega arith
shape_later (forked _ e _ _) = omega arith
shape_later (branched _ e _ _) = omega arith
shape_later (centred _ e _ _) = omega arith

module _ (x : Name) (valid : is_name x ≡ true) where
  pub heavy : 3 ≤ label x
  heavy = shape_heavy (name_shape x valid)

  later : 1 ≤ branch x
  later = shape_later (name_shape x valid)

  -- i and j are joined
  pub joined_adjacent : (i j : ℕ) → i ≢ j → entry x i j ≢ 2 → Adjacent (branch x) i j
  joined_adjacent i j ne h = go (dec_lt i j)
    where
      go : Dec (i < j) → Adjacent (branch x) i j
      go (yes k) = rising_adjacent (branch x) (start x) (label x) i j k (λ e. h (entry_tree x i j k ∙ e))
      go (no k) =
          let r : j < i = omega arith in
          turned (rising_adjacent (branch x) (start x) (label x) j i r (λ e. h (entry_symmetric x i j ∙ entry_tree x j i r ∙ e)))

  pub first_number : entry x 0 (branch x) ≡ pick (eqb 0 (start x)) (label x) 3
  first_number = entry_tree x 0 (branch x) later ∙ ap (tree (branch x) (start x) (label x) 0) (sym (next_first (branch x))) ∙ tree_next (branch x) (start x) (label x) 0

  pub later_number : (i : ℕ) → 1 ≤ i → entry x i (i + 1) ≡ pick (eqb i (start x)) (label x) 3
  later_number i h = entry_tree x i (i + 1) (omega arith) ∙ ap (tree (branch x) (start x) (label x) i) (sym (next_later (branch x) i h)) ∙ tree_next (branch x) (start x) (label x) i

  pub adjacent_joined : (i j : ℕ) → Adjacent (branch x) i j → entry x i j ≢ 2
  adjacent_joined i j (hang p q) e =
      let m : entry x 0 (branch x) ≡ 2 = ap₂ (entry x) (sym p) (sym q) ∙ e in
      omega (arith, m, first_number, at_least (eqb 0 (start x)) (label x) heavy)
  adjacent_joined i j (hung p q) e =
      let m : entry x 0 (branch x) ≡ 2 = ap₂ (entry x) (sym p) (sym q) ∙ entry_symmetric x j i ∙ e in
      omega (arith, m, first_number, at_least (eqb 0 (start x)) (label x) heavy)
  adjacent_joined i j (beside p q h k ne) e = go (dec_lt i j)
    where
      go : Dec (i < j) → ⊥
      go (yes r) =
          let j' : j ≡ i + 1 = omega arith in
          omega (arith, ap (entry x i) j', e, later_number i p, at_least (eqb i (start x)) (label x) heavy)
      go (no r) =
          let i' : i ≡ j + 1 = omega arith in
          omega (arith, ap (entry x j) i', entry_symmetric x i j, e, later_number j q, at_least (eqb j (start x)) (label x) heavy)

  -- a number that joins is 3 or the label
  pub numbers : (i j : ℕ) → i ≢ j → entry x i j ≢ 2 → (entry x i j ≡ 3) ⊎ (entry x i j ≡ label x)
  numbers i j ne h = go (joined_adjacent i j ne h)
    where
      go : Adjacent (branch x) i j → (entry x i j ≡ 3) ⊎ (entry x i j ≡ label x)
      go (hang p q) = one_of (eqb 0 (start x)) (label x) (entry x i j) (ap₂ (entry x) p q ∙ first_number)
      go (hung p q) = one_of (eqb 0 (start x)) (label x) (entry x i j) (entry_symmetric x i j ∙ ap₂ (entry x) p q ∙ first_number)
      go (beside p q a c o) =
          elim (dec_lt i j) [
            | yes r ↦ (let j' : j ≡ i + 1 = omega arith in one_of (eqb i (start x)) (label x) (entry x i j) (ap (entry x i) j' ∙ later_number i p))
            | no r ↦ (let i' : i ≡ j + 1 = omega arith in one_of (eqb j (start x)) (label x) (entry x i j) (entry_symmetric x i j ∙ ap (entry x j) i' ∙ later_number j q))
          ]
