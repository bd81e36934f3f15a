-- A decimal in range is no infinity: it is at most 2 ^ 53 * 10 ^ 22, which is below 2 ^ 127, and rounding keeps the order. So only the words are infinite.
-- Assumes nothing.
use mathlib.Core.Bool.{Bool, true, false, cond, and-true}
use mathlib.Core.Path.{◌≡◌, sym, subst}
use Prim.Native.Nat.{ℕ, zero, suc, ◌+◌, ◌*◌, ◌^◌, ◌≤◌, ◌<◌}
use native.Mathlib.Nat.{le_of_lt, lt_of_le_of_lt, mul-one, mul-le-mul, one-le-pow, pow-le-pow_right}
use native.Mathlib.Omega.{arith}
use borrow.Author.Tests.{leb-true}
use lib.Dec.{T, lit<, ltb}
use lib.IntN.{ℤ, pos, negsuc}
use lib.Ieee.{Float, nan, inf, fin, binary64, prec, emax, low, odd, units, round, lt, eq, le}
use lib.Ieee.Fits.{round_is}
use lib.Ieee.Order.{round_mono}
use lib.Ieee.Scale.{finite}
use Rattle.float.specs.Decimal.{in_range, value}
use Rattle.float.proofs.RoundedOnce.{up_rounded_once, down_rounded_once}

abbrev large : Float
large = round binary64 false (2 ^ 127) 1

large_finite : T (finite large)
unfolding round
large_finite = tt

-- what is rounded is no infinity, if it is not above a finite value
units_below : (q k : ℕ) (y : Float) → T (finite y) → T (le (units binary64 false q k) y) → T (finite (units binary64 false q k))
unfolding units le lt eq
units_below q k y f h = below (ltb (q * 2 ^ k) (2 ^ (low binary64 + suc (emax binary64)))) q y f h
  where
    below : (t : Bool) (q : ℕ) (y : Float) → T (finite y) → T (le (cond t (odd (suc (prec binary64)) false q k (low binary64)) (inf false)) y)
        → T (finite (cond t (odd (suc (prec binary64)) false q k (low binary64)) (inf false)))
    below true zero y f h = tt
    below true (suc q) y f h = tt
    below false q nan f h = absurd f
    below false q (inf s) f h = absurd f
    below false q (fin s m e) f h = absurd h

round_finite : (a b : ℕ) → 0 < b → a * 1 ≤ 2 ^ 127 * b → T (finite (round binary64 false a b))
round_finite a b above h =
    subst (λ z. T (finite z)) (sym (round_is binary64 false a b))
    (units_below _ _ large large_finite (subst (λ z. T (le z large)) (round_is binary64 false a b) (round_mono binary64 a b (2 ^ 127) 1 above (lit< tt) h)))

pub value_finite : (w : ℕ) (p : ℤ) → w ≤ 2 ^ 53 → in_range p ≡ true → T (finite (value w p))
unfolding in_range
value_finite w (pos k) h r =
    let l = leb-true k 22 r in
    let few : w * 10 ^ k * 1 ≤ 2 ^ 53 * 10 ^ 22 = rw (mul-one (w * 10 ^ k)) (mul-le-mul h (pow-le-pow_right (lit< tt) l)) in
    rw (up_rounded_once w k h l) (round_finite (w * 10 ^ k) 1 (lit< tt) (le_of_lt (lt_of_le_of_lt few (lit< {m = 2 ^ 53 * 10 ^ 22} tt))))
value_finite w (negsuc k) h r =
    let l : suc k ≤ 22 = omega (arith, leb-true k 21 (rw and-true at r)) in
    let one = one-le-pow (suc k) 10 (lit< tt) in
    rw (down_rounded_once w k h l) (round_finite w (10 ^ suc k) one (mul-le-mul (le_of_lt (lt_of_le_of_lt h (lit< {m = 2 ^ 53} tt))) one))
