-- Doubles that are whole numbers exactly, and one operation on two of them: before it is rounded it has the value of their product or their quotient, and
-- `round` sees only the value of its fraction. Assumes nothing.
use mathlib.Core.Path.{◌≡◌, ap, ◌∙◌}
use mathlib.Core.Bool.{Bool, false, cond}
use Prim.Native.Nat.{ℕ, ◌*◌, ◌^◌, ◌≤◌, ◌<◌}
use native.Mathlib.Nat.{mul-one, mul_assoc, mul_comm, mul_left_comm, mul-mul-mul_comm, mul-pos}
use native.Mathlib.Omega.{arith}
use borrow.Author.Tests.{ne_eqb}
use lib.IntN.{ℤ}
use lib.Dec.{eqb, lit<}
use lib.Ieee.{Float, nan, inf, fin, binary64, up, down, round, mul, div, of_int}
use lib.Ieee.Back.{round_whole}
use lib.Ieee.Exact.{HasValue}
use lib.Ieee.Fits.{down_pos}
use lib.Ieee.Positive.{first_pos}
use lib.Ieee.Scale.{round_same}
use Rattle.float.specs.Numbers.{whole}

-- x is the whole number a
pub data Exactly : Float → ℕ → Type 0 where
  is : {m : ℕ} {e : ℤ} {a : ℕ} → m * up e ≡ a * down e → Exactly (fin false m e) a

pub exactly : (x : Float) (a : ℕ) → HasValue x false a 1 → Exactly x a
exactly nan a h = absurd h
exactly (inf s) a h = absurd h
exactly (fin s m e) a h = rw h.0 (is (rw mul-one at h.1))

pub whole_exact : (w : ℕ) → w ≤ 2 ^ 53 → Exactly (whole w) w
unfolding whole of_int
whole_exact w h = exactly (round binary64 false w 1) w (round_whole binary64 false w h)

-- ---- one operation on two of them rounds their product or their quotient

pub product_rounded : {x y : Float} {a b : ℕ} → Exactly x a → Exactly y b → mul binary64 x y ≡ round binary64 false (a * b) 1
unfolding mul
product_rounded (is {m} {e} {a} p) (is {m = n} {e = d} {a = b} q) =
    round_same binary64 false (m * up e * (n * up d)) (down e * down d) (a * b) 1 (mul-pos (down_pos e) (down_pos d)) (lit< tt)
    (rw (p, q) (mul-one (a * down e * (b * down d)) ∙ mul-mul-mul_comm a (down e) b (down d)))

pub quotient_rounded : {x y : Float} {a b : ℕ} → Exactly x a → Exactly y b → 0 < b → div binary64 x y ≡ round binary64 false a b
unfolding div
quotient_rounded (is {m} {e} {a} p) (is {m = n} {e = d} {a = b} q) B =
    let some : 0 < n * up d = rw q (mul-pos B (down_pos d)) in
    let z : eqb n 0 ≡ false = ne_eqb n 0 (λ (o : n ≡ 0). let i = first_pos n (up d) some in omega arith) in
    ap (λ (t : Bool). cond t (cond (eqb m 0) nan (inf false)) (round binary64 false (m * up e * down d) (n * up d * down e))) z
    ∙ round_same binary64 false (m * up e * down d) (n * up d * down e) a b (mul-pos some (down_pos e)) B (rw (p, q) (simp (mul_assoc, mul_comm, mul_left_comm)))
