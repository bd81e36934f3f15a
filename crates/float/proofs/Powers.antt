-- The power of ten of a literal, from −22 to 22: what each sign leaves of it. Assumes nothing.
use mathlib.Core.Path.{◌≡◌, refl, sym}
use mathlib.Core.Bool.{Bool, true, false, ◌&&◌, true≢false}
use Prim.Native.Nat.{ℕ, ◌≤◌, ◌<◌, ◌^◌}
use native.Mathlib.Nat.{zero-add}
use native.Mathlib.Omega.{arith}
use borrow.Author.Tests.{leb-true, leb-false}
use lib.Dec.{T, leb}
use lib.IntN.{ℤ, pos, negsuc, nat_abs, ◌-ℤ◌}
use lib.Signed.{le_z, non_neg}
use mir.Syntax.{w64}
use mir.Val.{Fits, SFits}
use Rattle.float.specs.Numbers.{whole, ◌*ᶠ◌, ◌/ᶠ◌}
use Rattle.float.specs.Decimal.{in_range, value}

-- of a conjunction that is true, each part is
both : (a b : Bool) → a && b ≡ true → (a ≡ true) × (b ≡ true)
both true b h = (refl, h)
both false b h = absurd (true≢false (sym h))

pub size : (p : ℤ) → in_range p ≡ true → nat_abs p ≤ 22
unfolding in_range
size (pos k) h = leb-true k 22 (both true (leb k 22) h).1
size (negsuc k) h = let l : k ≤ 21 = leb-true k 21 (both (leb k 21) true h).0 in omega arith

-- p counts up
pub up_value : (w : ℕ) (p : ℤ) → le_z (pos 0) p ≡ true → whole w *ᶠ whole (10 ^ nat_abs p) ≡ value w p
unfolding value
up_value w (pos k) t = refl
up_value w (negsuc k) t = absurd (true≢false (sym t))

-- p counts down
not_down : {A : Type 0} (k : ℕ) → le_z (pos 0) (pos k) ≡ false → A
not_down k t = let l : k < 0 = leb-false 0 k t in let z : ⊥ = omega arith in absurd z

pub minus_fits : (p : ℤ) → in_range p ≡ true → le_z (pos 0) p ≡ false → SFits w64 (pos 0 -ℤ p)
minus_fits (pos k) h t = not_down k t
minus_fits (negsuc k) h t = let l = size (negsuc k) h in record { sfits = omega arith }

pub down_size : (p : ℤ) → in_range p ≡ true → le_z (pos 0) p ≡ false → nat_abs (pos 0 -ℤ p) ≤ 22
down_size (pos k) h t = not_down k t
down_size (negsuc k) h t = let l = size (negsuc k) h in omega arith

pub down_cast : (p : ℤ) → in_range p ≡ true → le_z (pos 0) p ≡ false → T (non_neg (pos 0 -ℤ p)) × Fits w64 (nat_abs (pos 0 -ℤ p))
down_cast (pos k) h t = not_down k t
down_cast (negsuc k) h t = let l = size (negsuc k) h in (tt, record { fits = omega arith })

pub down_value : (w : ℕ) (p : ℤ) → le_z (pos 0) p ≡ false → whole w /ᶠ whole (10 ^ nat_abs (pos 0 -ℤ p)) ≡ value w p
unfolding value
down_value w (pos k) t = not_down k t
down_value w (negsuc k) t = simp zero-add
