-- From patterns to values: how many units a double has, and a finite double's pattern. Assumes nothing.
use mathlib.Core.Path.{◌≡◌, refl, sym, ap, ◌∙◌, subst}
use mathlib.Core.Logic.{inl, inr}
use mathlib.Core.Bool.{Bool, true, false, ◌&&◌, cond, true≢false}
use Prim.Native.Nat.{ℕ, suc, ◌+◌, ◌-◌, ◌*◌, ◌/◌, ◌%◌, ◌^◌, ◌≤◌, ◌<◌}
use native.Mathlib.Nat.{lt_of_not-le, eq-zero-or-pos, mod-eq_of_lt, mul-one, mul_right_comm, mul-pos, zero-lt-suc, mul-lt-mul_of_pos_right, div-lt_iff_lt-mul}
use native.Mathlib.Decide.{dec_le}
use native.Mathlib.Omega.{arith}
use borrow.Author.Tests.{lt-ltb, lt-leb, ne_eqb}
use lib.IntN.{ℤ}
use lib.Dec.{T, leb, ltb, eqb, ltb→lt}
use lib.Pow.{pow_pos}
use lib.Ieee.{Float, nan, inf, fin, binary64, up, down, size, odd, of_fields, of_bits, to_bits, fits, lt}
use lib.Ieee.Bits.{of_bits-to_bits}
use lib.Ieee.Digits.{size-le}
use lib.Ieee.Exact.{HasValue, odd_sign}
use lib.Ieee.Fits.{up_pos, down_pos, kept-lt, and_r}
use Rattle.float.specs.Root.{units}
use Rattle.float.proofs.Units.{units_small, units_normal}

-- ---- a pattern's value

of_bits_is : (b : ℕ) → of_bits binary64 b ≡ of_fields binary64 (leb (2 ^ 63) b) (b % 2 ^ 63 / 2 ^ 52) (b % 2 ^ 52)
unfolding of_bits
of_bits_is b = refl

plain : (b : ℕ) → b < 0x7ff0_0000_0000_0000 → of_bits binary64 b ≡ of_fields binary64 false (b / 2 ^ 52) (b % 2 ^ 52)
plain b h =
    let k : b < 2 ^ 63 = omega arith in
    of_bits_is b
    ∙ ap (λ (s : Bool). of_fields binary64 s (b % 2 ^ 63 / 2 ^ 52) (b % 2 ^ 52)) (lt-leb (2 ^ 63) b k)
    ∙ ap (λ (x : ℕ). of_fields binary64 false (x / 2 ^ 52) (b % 2 ^ 52)) (mod-eq_of_lt k)

at_zero : (t : ℕ) → of_fields binary64 false 0 t ≡ odd 53 false t 0 1074
unfolding of_fields
at_zero t = refl

at_suc : (x t : ℕ) → suc x < 2047 → of_fields binary64 false (suc x) t ≡ odd 53 false (2 ^ 52 + t) x 1074
unfolding of_fields
at_suc x t h = ap (λ (b : Bool). cond b (cond (eqb t 0) (inf false) nan) (odd 53 false (2 ^ 52 + t) x 1074)) (ne_eqb (suc x) 2047 (λ (e : suc x ≡ 2047). differ x h e))
  where
    differ : (y : ℕ) → suc y < 2047 → suc y ≡ 2047 → ⊥
    differ y p q = omega arith

-- the double with pattern b is units b units
pub bits_value : (b : ℕ) → b < 0x7ff0_0000_0000_0000 → HasValue (of_bits binary64 b) false (units b) (2 ^ 1074)
bits_value b h =
    elim (dec_le (2 ^ 52) b) [
      | yes p ↦
          let e : of_bits binary64 b ≡ odd 53 false (2 ^ 52 + b % 2 ^ 52) (b / 2 ^ 52 - 1) 1074 =
          plain b h ∙ ap (λ (x : ℕ). of_fields binary64 false x (b % 2 ^ 52)) (field b p) ∙ at_suc (b / 2 ^ 52 - 1) (b % 2 ^ 52) (small b p h) in
          subst (λ (x : Float). HasValue x false (units b) (2 ^ 1074)) (sym e)
          (subst (λ (x : ℕ). HasValue (odd 53 false (2 ^ 52 + b % 2 ^ 52) (b / 2 ^ 52 - 1) 1074) false x (2 ^ 1074)) (sym (units_normal b p))
          (odd_sign 53 false (2 ^ 52 + b % 2 ^ 52) (b / 2 ^ 52 - 1) 1074))
      | no f ↦
          let l : b < 2 ^ 52 = lt_of_not-le f in
          let e : of_bits binary64 b ≡ odd 53 false b 0 1074 =
          plain b h ∙ ap (λ (x : ℕ). of_fields binary64 false x (b % 2 ^ 52)) (none b l) ∙ at_zero (b % 2 ^ 52) ∙ ap (λ (t : ℕ). odd 53 false t 0 1074) (mod-eq_of_lt l) in
          subst (λ (x : Float). HasValue x false (units b) (2 ^ 1074)) (sym e)
          (subst (λ (x : ℕ). HasValue (odd 53 false b 0 1074) false x (2 ^ 1074)) (mul-one b ∙ sym (units_small b l))
          (odd_sign 53 false b 0 1074))
    ]
  where
    field : (x : ℕ) → 2 ^ 52 ≤ x → x / 2 ^ 52 ≡ suc (x / 2 ^ 52 - 1)
    field x p = omega arith

    small : (x : ℕ) → 2 ^ 52 ≤ x → x < 0x7ff0_0000_0000_0000 → suc (x / 2 ^ 52 - 1) < 2047
    small x p q = omega arith

    none : (x : ℕ) → x < 2 ^ 52 → x / 2 ^ 52 ≡ 0
    none x p = omega arith

-- ---- a finite double's pattern

to_bits_is : (m : ℕ) (e : ℤ) → to_bits binary64 (fin false m e) ≡ 0 + (size (m * up e * 2 ^ 1074 / down e) - 53) * 2 ^ 52 + m * up e * 2 ^ 1074 / down e / 2 ^ (size (m * up e * 2 ^ 1074 / down e) - 53)
unfolding to_bits
to_bits_is m e = refl

pub fits_lt : (m : ℕ) (e : ℤ) → T (fits binary64 (fin false (suc m) e)) → suc m * up e < 2 ^ 1024 * down e
unfolding fits
fits_lt m e h = ltb→lt (suc m * up e) (2 ^ 1024 * down e) (and_r (eqb (suc m % 2) 1 && ltb (suc m) (2 ^ 53) && leb (down e) (2 ^ 1074)) (ltb (suc m * up e) (2 ^ 1024 * down e)) h)

pub finite_bits : (m : ℕ) (e : ℤ) → T (fits binary64 (fin false (suc m) e)) → to_bits binary64 (fin false (suc m) e) < 0x7ff0_0000_0000_0000
finite_bits m e h =
    let n = suc m * up e * 2 ^ 1074 / down e in
    let k : suc m * up e * 2 ^ 1074 < 2 ^ 2098 * down e =
    subst (λ (x : ℕ). suc m * up e * 2 ^ 1074 < x) (mul_right_comm (2 ^ 1024) (down e) (2 ^ 1074)) (mul-lt-mul_of_pos_right (fits_lt m e h) (pow_pos 1074)) in
    let s : size n ≤ 2098 = size-le n 2098 ((div-lt_iff_lt-mul (down_pos e)).1 k) in
    subst (λ (x : ℕ). x < 0x7ff0_0000_0000_0000) (sym (to_bits_is (suc m) e)) (sum (size n) (n / 2 ^ (size n - 53)) s (kept-lt 53 n))
  where
    sum : (x y : ℕ) → x ≤ 2098 → y < 2 ^ 53 → 0 + (x - 53) * 2 ^ 52 + y < 0x7ff0_0000_0000_0000
    sum x y p q = omega arith

-- ---- a double above zero has a pattern above zero

zero_not : lt (of_bits binary64 0) (of_bits binary64 0) ≡ false
unfolding of_bits lt
zero_not = refl

pub bits_positive : (v : Float) → T (fits binary64 v) → lt (of_bits binary64 0) v ≡ true → 0 < to_bits binary64 v
bits_positive v f h =
    elim (eq-zero-or-pos (to_bits binary64 v)) [
      | inl z ↦
          let e : v ≡ of_bits binary64 0 = sym (of_bits-to_bits binary64 v f) ∙ ap (of_bits binary64) z in
          absurd (true≢false (sym h ∙ ap (lt (of_bits binary64 0)) e ∙ zero_not))
      | inr p ↦ p
    ]

pub lt_positive : (m : ℕ) (e : ℤ) → lt (of_bits binary64 0) (fin false (suc m) e) ≡ true
unfolding of_bits lt
lt_positive m e =
    let p : 0 < suc m * up e = mul-pos (zero-lt-suc m) (up_pos e) in
    lt-ltb (0 * down e) (suc m * up e * 1) (omega arith)

pub finite_bits_positive : (m : ℕ) (e : ℤ) → T (fits binary64 (fin false (suc m) e)) → 0 < to_bits binary64 (fin false (suc m) e)
finite_bits_positive m e f = bits_positive (fin false (suc m) e) f (lt_positive m e)
