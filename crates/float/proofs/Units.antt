-- How many units the double with a pattern has, by its two fields; a larger pattern stands for a larger number, and has a larger halfway point before it.
-- Assumes nothing.
use mathlib.Core.Path.{◌≡◌, sym, ap, ◌∙◌, subst}
use mathlib.Core.Logic.{inl, inr}
use mathlib.Core.Bool.{Bool, cond}
use Prim.Native.Nat.{ℕ, suc, ◌+◌, ◌-◌, ◌*◌, ◌/◌, ◌%◌, ◌^◌, ◌≤◌, ◌<◌}
use native.Mathlib.Nat.{le_refl, le_trans, le_of_eq, le_of_lt, lt_of_not-le, eq-or-lt_of_le, mul_assoc, mul-le-mul_left, mul-le-mul_right, pow-succ'}
use native.Mathlib.Decide.{dec_le}
use native.Mathlib.Omega.{arith}
use borrow.Author.Tests.{lt-ltb, le-ltb}
use lib.Pow.{pow_mono}
use Rattle.float.specs.Root.{units, halfway}

-- ---- a pattern's fields

pub units_small : (n : ℕ) → n < 2 ^ 52 → units n ≡ n
unfolding units
units_small n h = ap (λ (t : Bool). cond t n ((2 ^ 52 + n % 2 ^ 52) * 2 ^ (n / 2 ^ 52 - 1))) (lt-ltb n (2 ^ 52) h)

pub units_normal : (n : ℕ) → 2 ^ 52 ≤ n → units n ≡ (2 ^ 52 + n % 2 ^ 52) * 2 ^ (n / 2 ^ 52 - 1)
unfolding units
units_normal n h = ap (λ (t : Bool). cond t n ((2 ^ 52 + n % 2 ^ 52) * 2 ^ (n / 2 ^ 52 - 1))) (le-ltb n (2 ^ 52) h)

-- ---- a larger pattern stands for a larger number

normal_mono : (b c : ℕ) → 2 ^ 52 ≤ b → b ≤ c → units b ≤ units c
normal_mono b c h k =
    subst (λ (x : ℕ). x ≤ units c) (sym (units_normal b h))
    (subst (λ (x : ℕ). (2 ^ 52 + b % 2 ^ 52) * 2 ^ (b / 2 ^ 52 - 1) ≤ x) (sym (units_normal c (le_trans h k)))
    (elim (eq-or-lt_of_le (fields_le b c k)) [
      | inl e ↦ subst (λ (x : ℕ). (2 ^ 52 + b % 2 ^ 52) * 2 ^ (b / 2 ^ 52 - 1) ≤ (2 ^ 52 + c % 2 ^ 52) * 2 ^ (x - 1)) e (mul-le-mul_right (2 ^ (b / 2 ^ 52 - 1)) (digits_le b c k e))
      | inr l ↦
          le_trans (mul-le-mul_right (2 ^ (b / 2 ^ 52 - 1)) (twice b))
          (le_trans (le_of_eq (mul_assoc (2 ^ 52) 2 (2 ^ (b / 2 ^ 52 - 1)) ∙ ap (λ (x : ℕ). 2 ^ 52 * x) (sym (pow-succ' 2 (b / 2 ^ 52 - 1)))))
          (le_trans (mul-le-mul_left (2 ^ 52) (pow_mono (next (b / 2 ^ 52) (c / 2 ^ 52) (first b h) l))) (mul-le-mul_right (2 ^ (c / 2 ^ 52 - 1)) (once c))))
    ]))
  where
    fields_le : (x y : ℕ) → x ≤ y → x / 2 ^ 52 ≤ y / 2 ^ 52
    fields_le x y p = omega arith

    digits_le : (x y : ℕ) → x ≤ y → x / 2 ^ 52 ≡ y / 2 ^ 52 → 2 ^ 52 + x % 2 ^ 52 ≤ 2 ^ 52 + y % 2 ^ 52
    digits_le x y p e = omega arith

    twice : (x : ℕ) → 2 ^ 52 + x % 2 ^ 52 ≤ 2 ^ 52 * 2
    twice x = omega arith

    once : (x : ℕ) → 2 ^ 52 ≤ 2 ^ 52 + x % 2 ^ 52
    once x = omega arith

    next : (x y : ℕ) → 1 ≤ x → x < y → suc (x - 1) ≤ y - 1
    next x y p q = omega arith

    first : (x : ℕ) → 2 ^ 52 ≤ x → 1 ≤ x / 2 ^ 52
    first x p = omega arith

pub units_mono : (b c : ℕ) → b ≤ c → units b ≤ units c
units_mono b c h = at_b (dec_le (2 ^ 52) b)
  where
    at_c : b < 2 ^ 52 → Dec (2 ^ 52 ≤ c) → units b ≤ units c
    at_c p (yes q) = subst (λ (x : ℕ). x ≤ units c) (sym (units_small b p)) (le_trans (le_of_lt p) (subst (λ (x : ℕ). x ≤ units c) (units_normal (2 ^ 52) (le_refl (2 ^ 52))) (normal_mono (2 ^ 52) c (le_refl (2 ^ 52)) q)))
    at_c p (no f) = subst (λ (x : ℕ). x ≤ units c) (sym (units_small b p)) (subst (λ (x : ℕ). b ≤ x) (sym (units_small c (lt_of_not-le f))) h)

    at_b : Dec (2 ^ 52 ≤ b) → units b ≤ units c
    at_b (yes p) = normal_mono b c p h
    at_b (no f) = at_c (lt_of_not-le f) (dec_le (2 ^ 52) c)

pub halfway_mono : (b c : ℕ) → b ≤ c → halfway b ≤ halfway c
unfolding halfway
halfway_mono b c h =
    let p : units (b - 1) ≤ units (c - 1) = units_mono (b - 1) (c - 1) (omega arith) in
    let q : units b ≤ units c = units_mono b c h in
    omega arith

-- ---- the pattern of q digits above F fields

pub units_at : (q F : ℕ) → 2 ^ 52 ≤ q → q ≤ 2 ^ 53 → units (q + F * 2 ^ 52) ≡ q * 2 ^ F
units_at q F h l =
    let n = q + F * 2 ^ 52 in
    units_normal n (omega arith)
    ∙ elim (eq-or-lt_of_le l) [
      | inl e ↦
          let d : 2 ^ 52 + n % 2 ^ 52 ≡ 2 ^ 52 = omega arith in
          let x : n / 2 ^ 52 - 1 ≡ suc F = omega arith in
          ap (λ (k : ℕ). (2 ^ 52 + n % 2 ^ 52) * 2 ^ k) x ∙ ap (λ (k : ℕ). k * 2 ^ suc F) d ∙ ap (λ (k : ℕ). 2 ^ 52 * k) (pow-succ' 2 F)
          ∙ sym (mul_assoc (2 ^ 52) 2 (2 ^ F)) ∙ ap (λ (k : ℕ). k * 2 ^ F) (sym e)
      | inr s ↦
          let d : 2 ^ 52 + n % 2 ^ 52 ≡ q = omega arith in
          let x : n / 2 ^ 52 - 1 ≡ F = omega arith in
          ap (λ (k : ℕ). (2 ^ 52 + n % 2 ^ 52) * 2 ^ k) x ∙ ap (λ (k : ℕ). k * 2 ^ F) d
    ]
