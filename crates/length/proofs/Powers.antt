-- The power of ten by its size: the size of a sum is at most that of its parts and one more. So a difference of small numbers fits an i64, and an exponent of
-- 1000 is out of range whatever stands after the point. Assumes nothing.
use Prim.Native.Nat.{ℕ, zero, suc, ◌+◌, ◌-◌, ◌≤◌, ◌<◌}
use mathlib.Core.Bool.{Bool, true, false, cond}
use mathlib.Core.Path.{◌≡◌}
use native.Mathlib.Omega.{arith}
use lib.Dec.{ltb}
use lib.IntN.{ℤ, pos, negsuc, neg_ℤ, ◌+ℤ◌, ◌-ℤ◌, -ℤ-+ℤ_cancel}
use lib.Signed.{mag}
use borrow.Author.Tests.{lt-leb}
use mir.Facts.{to_z-of_z}
use mir.Syntax.{w64}
use mir.Val.{SFits, to_z}
use Rattle.float.specs.Decimal.{in_range}
use Rattle.length.specs.Literals.{power}

-- of a difference of two numbers, whichever is the larger
size_difference : (a b : ℕ) (t : Bool) → mag (cond t (negsuc (b - suc a)) (pos (a - b))) ≤ a + b
size_difference a b true = omega arith
size_difference a b false = omega arith

size_sum : (a b : ℤ) → mag (a +ℤ b) ≤ mag a + mag b + 1
size_sum (pos a) (pos b) = omega arith
size_sum (pos a) (negsuc b) = omega (arith, size_difference a (suc b) (ltb a (suc b)))
size_sum (negsuc a) (pos b) = omega (arith, size_difference b (suc a) (ltb b (suc a)))
size_sum (negsuc a) (negsuc b) = omega arith

size_minus : (n : ℕ) → (mag (neg_ℤ (pos n)) ≤ n) × (n ≤ mag (neg_ℤ (pos n)) + 1)
size_minus zero = omega arith
size_minus (suc n) = omega arith

module _ (a : ℤ) (n : ℕ) where
  pub difference_at_most : mag (a -ℤ pos n) ≤ mag a + n + 1
  difference_at_most = omega (arith, size_minus n, size_sum a (neg_ℤ (pos n)))

  difference_at_least : mag a ≤ mag (a -ℤ pos n) + n + 1
  difference_at_least = rw (-ℤ-+ℤ_cancel a (pos n)) at (size_sum (a -ℤ pos n) (pos n))

  pub difference_fits : mag a ≤ 2000 → n ≤ 1000 → SFits w64 (a -ℤ pos n)
  difference_fits h k = let s = difference_at_most in record { sfits = omega arith }

pub small_reads : (n : ℕ) → n ≤ 1000 → to_z w64 n ≡ pos n
small_reads n h = to_z-of_z {w = w64} {z = pos n} (record { sfits = omega arith })

large_beyond : (p : ℤ) → 22 < mag p → in_range p ≡ false
unfolding in_range
large_beyond (pos k) h = simp (lt-leb k 22 h)
large_beyond (negsuc k) h = let l : 21 < k = omega arith in simp (lt-leb k 21 l)

pub power_beyond : (m : Bool) (e f : ℕ) → 1000 ≤ e → f ≤ 15 → in_range (power m e f) ≡ false
unfolding power
power_beyond true e f h k = large_beyond _ (omega (arith, size_minus e, difference_at_least (neg_ℤ (pos e)) f))
power_beyond false e f h k = large_beyond _ (omega (arith, difference_at_least (pos e) f))
