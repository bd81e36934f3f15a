-- A literal's value is the double nearest to the decimal that is written. Its digits are a double exactly: a whole number up to 2 ^ 53, since 15 digits are
-- below 10 ^ 15. So is 10 ^ k = 5 ^ k * 2 ^ k for k up to 22, since 5 ^ 22 < 2 ^ 53. So the product or the quotient of the two doubles has the value that is
-- written before it is rounded (proofs/Exactly.antt). Assumes nothing.
use mathlib.Core.Path.{◌≡◌, refl}
use mathlib.Core.Bool.{false}
use Prim.Native.Nat.{ℕ, zero, suc, ◌+◌, ◌*◌, ◌^◌, ◌≤◌, ◌<◌}
use native.Mathlib.Nat.{lt_of_lt_of_le, lt_of_le_of_lt, mul-one, mul_assoc, mul-mul-mul_comm, pow-suc, one-le-pow, pow-le-pow_right}
use native.Mathlib.Omega.{arith}
use lib.IntN.{pos, negsuc}
use lib.Dec.{lit<}
use lib.Pow.{pow_mono, pow-add, shl_lt}
use lib.Ieee.{binary64, round, of_int}
use lib.Ieee.Exact.{round_exact}
use Rattle.float.specs.Numbers.{whole}
use Rattle.float.specs.Decimal.{value}
use Rattle.float.proofs.Exactly.{Exactly, exactly, whole_exact, product_rounded, quotient_rounded}

five_two : (k : ℕ) → 10 ^ k ≡ 5 ^ k * 2 ^ k
five_two zero = refl
five_two (suc k) = simp pow-suc (rw (five_two k) (mul-mul-mul_comm (5 ^ k) (2 ^ k) 5 2))

power_exact : (k : ℕ) → k ≤ 22 → Exactly (whole (10 ^ k)) (10 ^ k)
unfolding whole of_int
power_exact k h =
    let few : 5 ^ k < 2 ^ 53 = lt_of_le_of_lt (pow-le-pow_right (lit< tt) h) (lit< {m = 5 ^ 22} tt) in
    let room : 53 + (k + 1074) ≤ 1074 + 1024 = omega arith in
    exactly (round binary64 false (10 ^ k) 1) (10 ^ k)
    (round_exact binary64 false (10 ^ k) 1 (5 ^ k) (k + 1074) (lit< tt) few (lt_of_lt_of_le (shl_lt 53 (k + 1074) few) (pow_mono room)) (simp (five_two, pow-add, mul-one, mul_assoc)))

-- ---- the literals

-- w × 10 ^ k, rounded once
pub up_rounded_once : (w k : ℕ) → w ≤ 2 ^ 53 → k ≤ 22 → value w (pos k) ≡ round binary64 false (w * 10 ^ k) 1
unfolding value
up_rounded_once w k h l = product_rounded (whole_exact w h) (power_exact k l)

-- w ÷ 10 ^ suc k, rounded once
pub down_rounded_once : (w k : ℕ) → w ≤ 2 ^ 53 → suc k ≤ 22 → value w (negsuc k) ≡ round binary64 false w (10 ^ suc k)
unfolding value
down_rounded_once w k h l = quotient_rounded (whole_exact w h) (power_exact (suc k) l) (one-le-pow (suc k) 10 (lit< tt))
