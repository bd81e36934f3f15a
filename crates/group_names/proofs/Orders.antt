-- The products that orders are: one factor more at a time, and up to 16 factors none is greater than that of 16. Assumes nothing.
use mathlib.Core.Path.{◌≡◌, refl, sym, ap, ◌∙◌, subst}
use Prim.Native.Nat.{ℕ, zero, suc, ◌+◌, ◌-◌, ◌*◌, ◌/◌, ◌^◌, ◌≤◌, ◌<◌}
use native.Mathlib.Decide.{ℕ_discrete}
use native.Mathlib.Nat.{pow-zero, pow-suc, mul-le-mul, le_refl, le_trans, zero-add, suc-add}
use native.Mathlib.Numerals.{add-one}
use native.Mathlib.Omega.{arith}
use Rattle.filing.specs.Factorials.{factorial}

-- the product of the first k multiples of s
abbrev pub product : ℕ → ℕ → ℕ
product s k = s ^ k * factorial k

one_power : (k : ℕ) → 1 ^ k ≡ 1
one_power zero = pow-zero 1
one_power (suc k) = pow-suc 1 k ∙ omega (arith, one_power k)

pub product_one : (k : ℕ) → product 1 k ≡ factorial k
product_one k = rw (one_power k) (omega arith)

turned : (p f s m : ℕ) → p * f * (s * m) ≡ p * s * (m * f)
turned p f s m = omega arith

pub product_next : (s k : ℕ) → product s (k + 1) ≡ product s k * (s * (k + 1))
unfolding factorial
product_next s k = rw (add-one, pow-suc s k) (sym (turned (s ^ k) (factorial k) s (suc k)))

pub product_none : (s : ℕ) → product s 0 ≡ 1
unfolding factorial
product_none s = rw (pow-zero s) refl

-- the product with one factor more
pub product_more : (s k : ℕ) {r : ℕ} → r ≡ product s k → r * (s * (k + 1)) ≡ product s (k + 1)
product_more s k e = rw e (sym (product_next s k))

product_step : (s k : ℕ) → 1 ≤ s → product s k ≤ product s (k + 1)
product_step s k h =
    let o : 1 ≤ k + 1 = omega arith in
    let m : 1 * 1 ≤ s * (k + 1) = mul-le-mul h o in
    let l : product s k * 1 ≤ product s k * (s * (k + 1)) = mul-le-mul (le_refl (product s k)) m in
    omega (arith, l, product_next s k)

product_grows : (s d k : ℕ) → 1 ≤ s → product s k ≤ product s (d + k)
product_grows s zero k h = rw (zero-add k) (le_refl (product s k))
product_grows s (suc d) k h = rw (suc-add d k) (le_trans (product_grows s d k h) (rw add-one at (product_step s (d + k) h)))

pub product_fits : (s k : ℕ) → 1 ≤ s → s ≤ 2 → k ≤ 16 → product s k < 2 ^ 64
unfolding factorial
product_fits s k h l m = go (ℕ_discrete s 1)
  where
    most : product s k ≤ product s 16
    most = subst (λ z. product s k ≤ product s z) (omega arith) (product_grows s (16 - k) k h)

    go : Dec (s ≡ 1) → product s k < 2 ^ 64
    go (yes e) = omega (arith, most, ap (λ z. product z 16) e)
    go (no n) = let e : s ≡ 2 = omega arith in omega (arith, most, ap (λ z. product z 16) e)

suc_sub_one : (m : ℕ) → suc m - 1 ≡ m
suc_sub_one m = omega arith

half : (a b : ℕ) → a * 2 * b / 2 ≡ a * b
half a b = omega arith

-- the order of D is half that of B
pub half_product : (n : ℕ) → 1 ≤ n → product 2 n / 2 ≡ 2 ^ (n - 1) * factorial n
half_product zero h = absurd (omega arith)
half_product (suc m) h = rw (pow-suc 2 m, suc_sub_one m) (half (2 ^ m) (factorial (suc m)))
