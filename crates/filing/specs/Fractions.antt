-- Document 01, "Filing record": fractions.
use Rattle.std.specs.Prelude.{◌≡◌, ℕ, zero, suc, ◌*◌, ◌/◌, ◌%◌}

pub record Fraction : Type 0 where
  pub num : ℕ
  pub den : ℕ

-- "Two fractions are equal when each num times the other's den gives the same whole number, without wrapping."
abbrev pub SameFraction : Fraction → Fraction → Type 0
SameFraction x y = x.num * y.den ≡ y.num * x.den

-- Euclid's algorithm in at most f steps
unfoldable pub gcd_in : ℕ → ℕ → ℕ → ℕ
gcd_in zero a b = a
gcd_in (suc f) a zero = a
gcd_in (suc f) a (suc b) = gcd_in f (suc b) (a % suc b)

-- "their greatest common divisor": b steps are enough, and it divides both, as does no greater number (proofs/Gcd.antt)
unfoldable pub gcd : ℕ → ℕ → ℕ
unfolding gcd_in
gcd a b = gcd_in b a b

-- "num and den divided by their greatest common divisor"
unfoldable pub lowest : Fraction → Fraction
unfolding gcd
lowest x = record { num = x.num / gcd x.num x.den; den = x.den / gcd x.num x.den }
