-- The digits that `io::decimal` writes, the fewest that hold the number, are those of `numeral`. Assumes nothing.
use Prim.Native.Nat.{ℕ, zero, suc, ◌-◌, ◌/◌, ◌%◌, ◌^◌, ◌≤◌, ◌<◌, min, max}
use mathlib.Core.Path.{◌≡◌}
use native.Mathlib.Nat.{mod-lt, mod-eq_of_lt, pow-suc, one-le-pow, pow-le-pow_right, le-div_iff_mul-le, div-lt_iff_lt-mul, zero-lt-suc, lt_of_not-le}
use native.Mathlib.Numerals.{sub-one}
use native.Mathlib.Omega.{arith}
use borrow.Author.Tests.{lt-ltb, le-ltb}
use Rattle.io.specs.Digits.{last_digits, IsDigitCount}
use Rattle.lexicon.specs.Answers.{in_digits, numeral}

-- as many digits as hold every number of a size are enough
module _ (b least most n r : ℕ) (pos : 0 < b) (l : least ≤ most) (h : n < b ^ most) (f : IsDigitCount b least n r) where
  no_more : suc most ≤ r → ⊥
  no_more m =
      let p : b ^ most ≤ b ^ (r - 1) = pow-le-pow_right pos {i = most} (omega arith) in
      let q : b ^ (r - 1) ≤ n = f.2 (omega arith) in
      omega arith

  pub few_digits : r ≤ most
  few_digits = omega (arith, lt_of_not-le no_more)

digits_of : (k r n : ℕ) → r ≤ k → IsDigitCount 10 1 n r → last_digits 10 r n ≡ in_digits k n
unfolding in_digits
digits_of zero r n h f = let z : ⊥ = omega arith in absurd z
digits_of (suc k) zero n h f = let z : ⊥ = omega arith in absurd z
digits_of (suc k) (suc zero) n h f = rw (mod-eq_of_lt f.1, lt-ltb n 10 f.1)
digits_of (suc k) (suc (suc r)) n h f =
    let low : 10 ^ suc r ≤ n = rw sub-one at (f.2 (omega arith)) in
    let ten : 10 ≤ n = omega (arith, pow-suc 10 r, one-le-pow r 10 (zero-lt-suc 9)) in
    let high : n / 10 < 10 ^ suc r = (div-lt_iff_lt-mul (zero-lt-suc 9)).1 (rw pow-suc at f.1) in
    let rest : 1 < suc r → 10 ^ (suc r - 1) ≤ n / 10 = λ g. rw sub-one ((le-div_iff_mul-le (zero-lt-suc 9)).1 (rw pow-suc at low)) in
    rw (le-ltb n 10 ten, digits_of k (suc r) (n / 10) (omega arith) (omega arith, high, rest), lt-ltb (n % 10) 10 (mod-lt n (zero-lt-suc 9)))

module _ (n r : ℕ) (h : n < 2 ^ 64) (f : IsDigitCount 10 1 n r) where
  pub most_digits : r ≤ 20
  most_digits = few_digits 10 1 20 n r (zero-lt-suc 9) (omega arith) (omega arith) f

  pub numeral_digits : last_digits 10 r n ≡ numeral n
  unfolding numeral
  numeral_digits = digits_of 20 r n most_digits f

-- a number that fits a width is written with just as many hexadecimal digits; every number that the kit writes fits 16
pub padded_digits : (width n : ℕ) {k : ℕ} → 0 < width → width ≤ 16 → (width < 16 → n < 16 ^ width) → k ≤ 16 → IsDigitCount 16 (min (max width 1) 16) n k → k ≡ width
padded_digits width n {k} pos small h most f =
    let w : min (max width 1) 16 ≡ width = omega arith in
    let g : IsDigitCount 16 width n k = rw w at f in
    let no : suc width ≤ k → ⊥ = λ m. no_more 16 width width n k (zero-lt-suc 15) (omega arith) (h (omega arith)) g m in
    omega (arith, lt_of_not-le no, g.0)
