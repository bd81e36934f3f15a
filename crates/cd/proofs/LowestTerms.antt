-- What the test of an edge tells, and that an edge in lowest terms is dropped exactly when the edge as typed is. Assumes nothing.
use mathlib.Core.Bool.{true, not, and-eq-true_iff, true≢false}
use mathlib.Core.Path.{◌≡◌, sym, ◌∙◌}
use Prim.Native.Nat.{ℕ, zero, suc, ◌*◌, ◌<◌}
use native.Mathlib.Decide.{ℕ_discrete}
use native.Mathlib.Omega.{arith}
use borrow.Author.Tests.{ltb-true, eq-eqb, ne_eqb}
use lib.Dec.{ltb, eqb}
use Rattle.filing.proofs.Gcd.{lowest_less, lowest_two}
use Rattle.cd.specs.Edges.{is_edge, is_two, fraction, reduced}
use Rattle.cd.specs.declared.Edge.{Edge}

-- what the test of an edge tells
module _ (e : Edge) (is : is_edge e.num e.den ≡ true) where
  tests : (not (eqb e.den 0) ≡ true) × (ltb e.den e.num ≡ true)
  unfolding is_edge
  tests = (and-eq-true_iff (not (eqb e.den 0)) (ltb e.den e.num)).0 ((and-eq-true_iff (ltb 1 e.num) _).0 is).1

  pub den_positive : 0 < e.den
  den_positive = positive e.den tests.0
    where
      positive : (d : ℕ) → not (eqb d 0) ≡ true → zero < d
      positive zero g = absurd (true≢false (sym g))
      positive (suc d) g = omega arith

  pub den_below : e.den < e.num
  den_below = ltb-true e.den e.num tests.1

  pub reduced_num_positive : 0 < (reduced e).num
  unfolding reduced
  reduced_num_positive = omega (arith, lowest_less (fraction e) den_below)

-- "It is two when num = 2×den"
pub reduced_two : (e : Edge) → is_two (reduced e) ≡ is_two e
unfolding is_two reduced
reduced_two e = elim (ℕ_discrete e.num (2 * e.den)) [
  | yes q ↦ eq-eqb _ _ ((lowest_two (fraction e)).1 q) ∙ sym (eq-eqb _ _ q)
  | no n ↦ ne_eqb _ _ (λ q. n ((lowest_two (fraction e)).0 q)) ∙ sym (ne_eqb _ _ n)
]
