-- The test of the entry a, b and the mirrored one: where i, j is a, b; where it is not, but i is b; and where it is neither. Assumes nothing.
use mathlib.Core.Bool.{true, false, ◌&&◌}
use mathlib.Core.Path.{◌≡◌}
use Prim.Native.Nat.{ℕ}
use borrow.Author.Tests.{eqb-true, eq-eqb}
use lib.Dec.{eqb}
use Rattle.cd.proofs.Decided.{and_false}
use Rattle.cox.specs.Families.{is_entry}

module _ (a b i j : ℕ) where
  not_both : (i ≡ a → j ≡ b → ⊥) → eqb i a && eqb j b ≡ false
  not_both h = and_false (eqb i a) (eqb j b) (λ p q. h (eqb-true i a p) (eqb-true j b q))

  pub entry_here : i ≡ a → j ≡ b → true ≡ is_entry a b i j
  unfolding is_entry
  entry_here p q = rw (eq-eqb i a p, eq-eqb j b q)

module _ (a b i j : ℕ) (n : i ≡ a → j ≡ b → ⊥) where
  pub entry_mirrored : i ≡ b → eqb j a ≡ is_entry a b i j
  unfolding is_entry
  entry_mirrored p = rw (not_both a b i j n, eq-eqb i b p)

  pub entry_other : (i ≡ b → j ≡ a → ⊥) → false ≡ is_entry a b i j
  unfolding is_entry
  entry_other o = rw (not_both a b i j n, not_both b a i j o)
