-- `root_of` is the nearest double. `last` ends at a pattern whose halfway point is at most the root while the next pattern's is above it; no halfway point
-- is the root (`Ties`), so the root lies between the two, and only one pattern has it there, since halfway points rise with the pattern. Assumes nothing.
use mathlib.Core.Path.{◌≡◌, refl, sym, ap, ◌∙◌, subst}
use mathlib.Core.Logic.{◌⊎◌, inl, inr}
use mathlib.Core.Bool.{Bool, true, false, cond}
use Prim.Native.Nat.{ℕ, zero, suc, ◌+◌, ◌*◌, ◌/◌, ◌^◌, ◌≤◌, ◌<◌, zero-le}
use native.Mathlib.Nat.{le_trans, le_of_lt, lt_of_lt_of_le, not-le_of_lt, lt_of_not-le, mul_right_comm, mul-lt-mul_of_pos_right, mul-le-mul, mul-div_cancel, div-lt_iff_lt-mul}
use native.Mathlib.Omega.{arith}
use native.Mathlib.Decide.{dec_le}
use borrow.Author.Tests.{le-leb, lt-leb, leb-true, leb-false}
use lib.IntN.{ℤ}
use lib.Dec.{T, lit≤}
use lib.Pow.{pow_pos}
use lib.Ieee.{Float, fin, binary64, up, down, fits, to_bits, of_bits}
use lib.Ieee.Bits.{of_bits-to_bits}
use lib.Ieee.Exact.{HasValue}
use lib.Ieee.Fits.{down_pos}
use Rattle.float.specs.Root.{units, halfway, scaled, reaches, last, root_bits, root_of, Between, NearestRoot}
use Rattle.float.proofs.Units.{halfway_mono}
use Rattle.float.proofs.Ties.{no_tie}
use Rattle.float.proofs.Values.{bits_value, finite_bits_positive, finite_bits, fits_lt}

-- ---- `last` finds the last pattern that reaches

module _ (u t : ℕ) (reached : halfway t * halfway t ≤ scaled u) (unreached : scaled u < halfway (t + 1) * halfway (t + 1)) where
  up_to : (c : ℕ) → c ≤ t → reaches u c ≡ true
  unfolding reaches
  up_to c h = le-leb (halfway c * halfway c) (scaled u) (le_trans (mul-le-mul (halfway_mono c t h) (halfway_mono c t h)) reached)

  past : (c : ℕ) → t < c → reaches u c ≡ false
  unfolding reaches
  past c h =
      let m : halfway (t + 1) ≤ halfway c = halfway_mono (t + 1) c (omega arith) in
      lt-leb (halfway c * halfway c) (scaled u) (lt_of_lt_of_le unreached (mul-le-mul m m))

  last_is : (k b : ℕ) → b ≤ t → t < b + 2 ^ k → last u k b ≡ t
  unfolding last
  last_is zero b h l = omega arith
  last_is (suc k) b h l =
      elim (dec_le (b + 2 ^ k) t) [
        | yes p ↦ ap (λ (x : Bool). last u k (cond x (b + 2 ^ k) b)) (up_to (b + 2 ^ k) p) ∙ last_is k (b + 2 ^ k) p (omega arith)
        | no f ↦ ap (λ (x : Bool). last u k (cond x (b + 2 ^ k) b)) (past (b + 2 ^ k) (lt_of_not-le f)) ∙ last_is k b h (lt_of_not-le f)
      ]

  root_bits_is : t < 2 ^ 63 → root_bits u ≡ t
  unfolding root_bits
  root_bits_is h = last_is 63 0 (omega arith) (omega arith)

-- ---- where it ends

either : (b : Bool) → (b ≡ true) ⊎ (b ≡ false)
either true = inl refl
either false = inr refl

-- where b reaches and b + 2 ^ k does not, `last` is at a place that reaches, whose next does not
edge : (u k b : ℕ) → reaches u b ≡ true → reaches u (b + 2 ^ k) ≡ false → (reaches u (last u k b) ≡ true) × (reaches u (last u k b + 1) ≡ false)
unfolding last
edge u zero b h l = (h, l)
edge u (suc k) b h l =
    elim (either (reaches u (b + 2 ^ k))) [
      | inl e ↦
          subst (λ (x : ℕ). (reaches u (last u k x) ≡ true) × (reaches u (last u k x + 1) ≡ false)) (sym (ap (λ (t : Bool). cond t (b + 2 ^ k) b) e))
          (edge u k (b + 2 ^ k) e (ap (reaches u) (halves b (2 ^ k) (2 ^ suc k) (omega arith)) ∙ l))
      | inr e ↦
          subst (λ (x : ℕ). (reaches u (last u k x) ≡ true) × (reaches u (last u k x + 1) ≡ false)) (sym (ap (λ (t : Bool). cond t (b + 2 ^ k) b) e))
          (edge u k b h e)
    ]
  where
    halves : (x y z : ℕ) → z ≡ y + y → x + y + y ≡ x + z
    halves x y z p = omega arith

first : (u : ℕ) → reaches u 0 ≡ true
unfolding reaches halfway units
first u = le-leb 0 (scaled u) zero-le

under : (u : ℕ) → u < 2 ^ 2098 → scaled u < 2 ^ 3174
under u h = mul-lt-mul_of_pos_right h (pow_pos 1076)

infinity_large : 2 ^ 3174 ≤ halfway 0x7ff0_0000_0000_0000 * halfway 0x7ff0_0000_0000_0000
unfolding halfway units
infinity_large = lit≤ tt

-- the pattern of the infinity, and all above it, reach no finite double's root
beyond : (u b : ℕ) → u < 2 ^ 2098 → 0x7ff0_0000_0000_0000 ≤ b → scaled u < halfway b * halfway b
beyond u b h l = lt_of_lt_of_le (under u h) (le_trans infinity_large (mul-le-mul (halfway_mono 0x7ff0_0000_0000_0000 b l) (halfway_mono 0x7ff0_0000_0000_0000 b l)))

-- u units are below 2 ^ 1024
module _ (u : ℕ) (h : u < 2 ^ 2098) where
  turned : (reaches u (root_bits u) ≡ true) × (reaches u (root_bits u + 1) ≡ false)
  unfolding root_bits reaches
  turned = edge u 63 0 (first u) (lt-leb (halfway (2 ^ 63) * halfway (2 ^ 63)) (scaled u) (beyond u (2 ^ 63) h (lit≤ tt)))

  low : halfway (root_bits u) * halfway (root_bits u) ≤ scaled u
  unfolding reaches
  low = leb-true _ _ turned.0

  high : scaled u < halfway (root_bits u + 1) * halfway (root_bits u + 1)
  unfolding reaches
  high = leb-false _ _ turned.1

  pub finite : root_bits u < 0x7ff0_0000_0000_0000
  finite = lt_of_not-le (λ (k : 0x7ff0_0000_0000_0000 ≤ root_bits u). not-le_of_lt (beyond u (root_bits u) h k) low)

only : (u s : ℕ) → s < 2 ^ 63 → Between u s → s ≡ root_bits u
only u s p b = sym (root_bits_is u s (le_of_lt b.low) b.high p)

strict : {x y : ℕ} → x ≤ y → (x ≡ y → ⊥) → x < y
strict h f = omega arith

-- the theorem, for a finite double above zero; a zero is its own root by definition
module _ (m : ℕ) (e : ℤ) (held : T (fits binary64 (fin false (suc m) e))) where
  abbrev pub v : Float
  v = fin false (suc m) e

  abbrev pub n : ℕ
  n = to_bits binary64 v

  pub of_v : HasValue v false (units n) (2 ^ 1074)
  of_v = subst (λ (x : Float). HasValue x false (units n) (2 ^ 1074)) (of_bits-to_bits binary64 v held) (bits_value n (finite_bits m e held))

  counted : suc m * up e * 2 ^ 1074 / down e ≡ units n
  counted = ap (λ (x : ℕ). x / down e) of_v.1 ∙ mul-div_cancel (units n) (down_pos e)

  pub few : units n < 2 ^ 2098
  few =
      subst (λ (x : ℕ). x < 2 ^ 2098) counted
      ((div-lt_iff_lt-mul (down_pos e)).1
      (subst (λ (x : ℕ). suc m * up e * 2 ^ 1074 < x) (mul_right_comm (2 ^ 1024) (down e) (2 ^ 1074)) (mul-lt-mul_of_pos_right (fits_lt m e held) (pow_pos 1074))))

  some : 0 < n
  some = finite_bits_positive m e held

  pub of_r : root_of v ≡ of_bits binary64 (root_bits (units n))
  unfolding root_of
  of_r = ap (λ (x : ℕ). of_bits binary64 (root_bits x)) counted

  pub between : Between (units n) (root_bits (units n))
  between = record { low = strict (low (units n) few) (no_tie n (root_bits (units n)) some); high = high (units n) few }

  pub root_nearest : NearestRoot v (root_of v)
  root_nearest = record {
    u = units n;
    of_v = of_v;
    t = root_bits (units n);
    of_r = of_r;
    r_finite = subst (λ (x : Float). HasValue x false (units (root_bits (units n))) (2 ^ 1074)) (sym of_r) (bits_value (root_bits (units n)) (finite (units n) few));
    nearest = between;
    only = only (units n);
    no_tie = λ (b : ℕ). no_tie n b some;
  }
