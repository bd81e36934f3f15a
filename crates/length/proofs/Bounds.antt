-- What the code keeps of a number is judged as the number is. More than 15 digits are out of range whatever their number, and 15 or fewer are below the bound
-- and kept whole; an exponent of 1000 or more is out of range, kept or not. Assumes nothing.
use Prim.Native.Nat.{ℕ, ◌^◌, ◌≤◌, ◌<◌, min}
use mathlib.Core.Bool.{Bool}
use mathlib.Core.Logic.{⊎_elim}
use mathlib.Core.Path.{◌≡◌, refl}
use native.Mathlib.Nat.{eq-or-lt_of_le}
use native.Mathlib.Omega.{arith}
use borrow.Author.Tests.{lt-ltb}
use Rattle.std.specs.Prelude.{Result, Ok, Err}
use Rattle.float.specs.Decimal.{decimal_of}
use Rattle.length.specs.Literals.{power, judged}
use Rattle.length.specs.Kept.{kept}
use Rattle.length.specs.declared.Exponent.{Exponent}
use Rattle.length.proofs.Powers.{power_beyond}

exponent_kept : (w : ℕ) (m : Bool) (e f : ℕ) (minus : Bool) → f ≤ 15 → decimal_of w (power m (min e 1000) f) minus ≡ decimal_of w (power m e f) minus
unfolding decimal_of
exponent_kept w m e f minus k =
    let small : min e 1000 ≤ e = omega arith in
    ⊎_elim
    (λ q. rw q)
    (λ h. simp (power_beyond m e f (omega arith) k, power_beyond m (min e 1000) f (omega arith) k))
    (eq-or-lt_of_le small)

pub judged_kept : (minus : Bool) (n w f : ℕ) (x : Result Exponent Exponent) → f ≤ n → (n ≤ 15 → w < 10 ^ 15) → judged minus n (min w (10 ^ 15)) f (kept x) ≡ judged minus n w f x
unfolding judged kept
judged_kept minus n w f (Err x) h b = refl
judged_kept minus n w f (Ok x) h b =
    let few : min n 15 ≤ n = omega arith in
    ⊎_elim
    (λ (e : min n 15 ≡ n). let k : f ≤ 15 = omega arith in let small : min w (10 ^ 15) ≡ w = omega (arith, b (omega arith)) in rw (small, exponent_kept))
    (λ p. simp (lt-ltb 15 n (omega arith)))
    (eq-or-lt_of_le few)
