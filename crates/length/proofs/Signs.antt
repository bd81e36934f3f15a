-- Laws of an optional sign at `at`: what the code took at a plus, at a minus, at another byte and at the end. Assumes nothing.
use Prim.Native.Nat.{ℕ, ◌+◌, ◌≤◌, ◌<◌}
use mathlib.Core.Bool.{Bool, true, false}
use mathlib.Core.List.{List}
use mathlib.Core.Path.{◌≡◌}
use native.Mathlib.Omega.{arith}
use lib.ListN.{length, get_or, drop, drop_of_length-le}
use borrow.Author.Tests.{eq-eqb, ne_eqb}
use Rattle.length.specs.Literals.{sign}
use Rattle.length.specs.Kept.{Signs}
use Rattle.scan.proofs.Rest.{drop_at}

module _ (t : List ℕ) (at : ℕ) where
  sign_is : (m : Bool) (n : ℕ) → sign (drop at t) ≡ record { minus = m; rest = drop n t } → at ≤ n → n ≤ length t → Signs t at (record { minus = m; next = n })
  sign_is m n e p q = record { minus = rw e; rest = rw e; from = p; inside = q }

  pub sign_at_plus : at < length t → get_or t at 0 ≡ 43 → Signs t at (record { minus = false; next = at + 1 })
  unfolding sign
  sign_at_plus h e = sign_is false (at + 1) (rw (drop_at t at h, eq-eqb _ 43 e)) (omega arith) (omega arith)

  pub sign_at_minus : at < length t → (get_or t at 0 ≡ 43 → ⊥) → get_or t at 0 ≡ 45 → Signs t at (record { minus = true; next = at + 1 })
  unfolding sign
  sign_at_minus h n e = sign_is true (at + 1) (rw (drop_at t at h, ne_eqb _ 43 n, eq-eqb _ 45 e)) (omega arith) (omega arith)

  pub sign_at_other : at < length t → (get_or t at 0 ≡ 43 → ⊥) → (get_or t at 0 ≡ 45 → ⊥) → Signs t at (record { minus = false; next = at })
  unfolding sign
  sign_at_other h n e = sign_is false at (rw (drop_at t at h, ne_eqb _ 43 n, ne_eqb _ 45 e)) (omega arith) (omega arith)

  pub sign_at_end : at ≤ length t → length t ≤ at → Signs t at (record { minus = false; next = at })
  unfolding sign
  sign_at_end p h = sign_is false at (rw (drop_of_length-le t h)) (omega arith) p

pub ruleset sign_laws = (sign_at_plus, sign_at_minus, sign_at_other, sign_at_end)
