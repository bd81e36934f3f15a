-- Euclid's algorithm keeps the common divisors of its two numbers, so that what it ends with is the greatest of them; it scales with both numbers, and so
-- fractions with equal cross products have equal lowest terms. Assumes nothing.
use mathlib.Core.Logic.{◌↔◌}
use mathlib.Core.Path.{◌≡◌, refl, sym, ap, ◌∙◌}
use Prim.Native.Nat.{ℕ, zero, suc, ◌*◌, ◌/◌, ◌%◌, ◌≤◌, ◌<◌, ◌∣◌}
use native.Mathlib.Nat.{le_refl, zero-lt-suc, not-suc-le-zero, mul-zero, mul_comm, mul_assoc, mul-sub, mul-pos, eq_of_mul-eq-mul_left, lt_of_mul-lt-mul_left}
use native.Mathlib.Nat.{mod-lt, mod_def, div-one, div_self, div-le_self, mul-div-mul_left, mul-div_cancel', dvd_refl, dvd-zero, dvd-mod_iff, pos_of_dvd_of_pos}
use native.Mathlib.Decide.{ℕ_discrete}
use native.Mathlib.Omega.{arith}
use Rattle.filing.specs.Fractions.{Fraction, SameFraction, gcd_in, gcd, lowest}

step_fits : {b f : ℕ} (a : ℕ) → suc b ≤ suc f → a % suc b ≤ f
step_fits {b} a h = omega (arith, mod-lt a (zero-lt-suc b))

-- more steps change nothing
enough : (f g a b : ℕ) → b ≤ f → b ≤ g → gcd_in f a b ≡ gcd_in g a b
unfolding gcd_in
enough zero zero a b h k = refl
enough zero (suc g) a zero h k = refl
enough zero (suc g) a (suc b) h k = omega arith
enough (suc f) zero a zero h k = refl
enough (suc f) zero a (suc b) h k = omega arith
enough (suc f) (suc g) a zero h k = refl
enough (suc f) (suc g) a (suc b) h k = enough f g (suc b) (a % suc b) (step_fits a h) (step_fits a k)

pub gcd_zero : (a : ℕ) → gcd a zero ≡ a
unfolding gcd
gcd_zero a = refl

pub gcd_one : (a : ℕ) → gcd a 1 ≡ 1
unfolding gcd
gcd_one a = refl

gcd_suc : (a b : ℕ) → gcd a (suc b) ≡ gcd (suc b) (a % suc b)
unfolding gcd
gcd_suc a b = enough b (a % suc b) (suc b) (a % suc b) (step_fits a (le_refl (suc b))) (le_refl (a % suc b))

pub gcd_pos : (a : ℕ) {b : ℕ} → zero < b → gcd a b ≡ gcd b (a % b)
gcd_pos a {b = zero} h = absurd (not-suc-le-zero h)
gcd_pos a {b = suc b} h = gcd_suc a b

-- what holds of (a, 0) and passes from (b, a % b) to (a, b) holds of every pair
gcd_ind : (P : ℕ → ℕ → Type 0) → ((a : ℕ) → P a zero) → ((a b : ℕ) → P (suc b) (a % suc b) → P a (suc b)) → (a b : ℕ) → P a b
gcd_ind P base step a b = go b a b (le_refl b)
  where
    go : (f a b : ℕ) → b ≤ f → P a b
    go zero a zero h = base a
    go zero a (suc b) h = absurd (not-suc-le-zero h)
    go (suc f) a zero h = base a
    go (suc f) a (suc b) h = step a b (go f (suc b) (a % suc b) (step_fits a h))

pub gcd_divides : (a b : ℕ) → (gcd a b ∣ a) × (gcd a b ∣ b)
gcd_divides =
    gcd_ind (λ a b. (gcd a b ∣ a) × (gcd a b ∣ b)) (λ a. rw gcd_zero (dvd_refl a, dvd-zero a)) (λ a b h. rw gcd_suc ((dvd-mod_iff _ h.0).0 h.1, h.0))

pub gcd_greatest : (k a b : ℕ) → k ∣ a → k ∣ b → k ∣ gcd a b
gcd_greatest k =
    gcd_ind (λ a b. k ∣ a → k ∣ b → k ∣ gcd a b) (λ a h _. rw gcd_zero h) (λ a b ih h g. rw gcd_suc (ih g ((dvd-mod_iff k g).1 h)))

mod_scaled : (k a b : ℕ) → zero < k → (k * a) % (k * b) ≡ k * (a % b)
mod_scaled k a b h = rw (mod_def (k * a) (k * b), mod_def a b, mul-div-mul_left a b h, mul-sub, mul_assoc)

pub gcd_scaled : (k a b : ℕ) → zero < k → gcd (k * a) (k * b) ≡ k * gcd a b
gcd_scaled k a b h = gcd_ind (λ a b. gcd (k * a) (k * b) ≡ k * gcd a b) base step a b
  where
    base : (a : ℕ) → gcd (k * a) (k * zero) ≡ k * gcd a zero
    base a = rw (mul-zero, gcd_zero (k * a), gcd_zero a)

    step : (a b : ℕ) → gcd (k * suc b) (k * (a % suc b)) ≡ k * gcd (suc b) (a % suc b) → gcd (k * a) (k * suc b) ≡ k * gcd a (suc b)
    step a b ih = gcd_pos (k * a) (mul-pos h (zero-lt-suc b)) ∙ rw (mod_scaled k a (suc b), gcd_suc a b) ih

pub gcd_positive : (a b : ℕ) → zero < b → zero < gcd a b
gcd_positive a b h = pos_of_dvd_of_pos (gcd_divides a b).1 h

-- ---- lowest terms

-- a fraction is its lowest terms times their divisor
module _ (x : Fraction) where
  divisor : ℕ
  divisor = gcd x.num x.den

  lowest_num : divisor * (lowest x).num ≡ x.num
  unfolding lowest divisor
  lowest_num = mul-div_cancel' divisor (gcd_divides x.num x.den).0

  lowest_den : divisor * (lowest x).den ≡ x.den
  unfolding lowest divisor
  lowest_den = mul-div_cancel' divisor (gcd_divides x.num x.den).1

  divisor_pos : zero < x.den → zero < divisor
  unfolding divisor
  divisor_pos h = gcd_positive x.num x.den h

  -- lowest terms are no greater, keep the denominator positive and the order of the two, and are the same fraction
  pub lowest_num_le : (lowest x).num ≤ x.num
  unfolding lowest
  lowest_num_le = div-le_self x.num (gcd x.num x.den)

  pub lowest_den_le : (lowest x).den ≤ x.den
  unfolding lowest
  lowest_den_le = div-le_self x.den (gcd x.num x.den)

  pub lowest_positive : zero < x.den → zero < (lowest x).den
  lowest_positive h = lt_of_mul-lt-mul_left divisor (rw (mul-zero, lowest_den) h)

  pub lowest_less : x.den < x.num → (lowest x).den < (lowest x).num
  lowest_less h = lt_of_mul-lt-mul_left divisor (rw (lowest_num, lowest_den) h)

  pub lowest_is_same : SameFraction (lowest x) x
  lowest_is_same = omega (arith, ap (λ z. z * (lowest x).den) lowest_num, ap (λ z. (lowest x).num * z) lowest_den)

-- a num that den divides is a whole number
pub lowest_divided : (x : Fraction) → zero < x.den → x.num % x.den ≡ zero → lowest x ≡ record { num = x.num / x.den; den = 1 }
unfolding lowest
lowest_divided x h e =
    let g : gcd x.num x.den ≡ x.den = gcd_pos x.num h ∙ ap (gcd x.den) e ∙ gcd_zero x.den in
    rw g (λ i. record { num = x.num / x.den; den = div_self h i })

-- numbers without a common divisor but 1 have nothing to divide: a whole number over 1, and those whose den stays
pub lowest_coprime : (x : Fraction) → gcd x.num x.den ≡ 1 → lowest x ≡ x
unfolding lowest
lowest_coprime x e = rw e (λ i. record { num = div-one x.num i; den = div-one x.den i })

pub lowest_whole : (n : ℕ) → lowest (record { num = n; den = 1 }) ≡ record { num = n; den = 1 }
lowest_whole n = lowest_coprime (record { num = n; den = 1 }) (gcd_one n)

pub lowest_undivided : (x : Fraction) → zero < x.den → (lowest x).den ≡ x.den → lowest x ≡ x
unfolding divisor
lowest_undivided x h e = lowest_coprime x (eq_of_mul-eq-mul_left x.den h (divisor x) 1 (omega (arith, lowest_den x, ap (λ z. divisor x * z) e)))

-- what is worth 2 remains so, and nothing else becomes so
pub lowest_two : (x : Fraction) → ((lowest x).num ≡ 2 * (lowest x).den) ↔ (x.num ≡ 2 * x.den)
lowest_two x = (to, from (ℕ_discrete x.den zero))
  where
    to : (lowest x).num ≡ 2 * (lowest x).den → x.num ≡ 2 * x.den
    to e = omega (arith, lowest_num x, lowest_den x, ap (λ z. divisor x * z) e)

    from : Dec (x.den ≡ zero) → x.num ≡ 2 * x.den → (lowest x).num ≡ 2 * (lowest x).den
    from (yes z) e = omega (arith, lowest_num_le x, lowest_den_le x)
    from (no z) e = eq_of_mul-eq-mul_left (divisor x) (divisor_pos x (omega arith)) _ _ (omega (arith, lowest_num x, lowest_den x))

-- ---- equal fractions

-- a/b and c/d with equal cross products: d g = gcd (d a, d b) = gcd (b c, b d) = b h, where g = gcd (a, b) and h = gcd (c, d)
cross_den : (a b c d : ℕ) → zero < b → zero < d → a * d ≡ c * b → d * gcd a b ≡ b * gcd c d
cross_den a b c d hb hd e = sym (gcd_scaled d a b hd) ∙ cc (mul_comm d a, mul_comm d b, mul_comm c b, e) ∙ gcd_scaled b c d hb

cross_num : (a b c d g h : ℕ) → zero < d → a * d ≡ c * b → d * g ≡ b * h → c * g ≡ a * h
cross_num a b c d g h hd e f = eq_of_mul-eq-mul_left d hd (c * g) (a * h) (omega (arith, ap (λ z. z * c) f, ap (λ z. z * h) e))

-- g q = b, h s = d and d g = b h give q = s
same_quotient : {g h q s b d : ℕ} → zero < g → zero < h → g * q ≡ b → h * s ≡ d → d * g ≡ b * h → q ≡ s
same_quotient {g} {h} {q} {s} {b} {d} hg hh p r e =
    eq_of_mul-eq-mul_left (g * h) (mul-pos hg hh) q s (omega (arith, ap (λ z. z * h) p, ap (λ z. z * g) r))

-- multiples of the same terms have equal cross products
cross_back : (g h p q : ℕ) {a b c d : ℕ} → g * p ≡ a → g * q ≡ b → h * p ≡ c → h * q ≡ d → a * d ≡ c * b
cross_back g h p q {a} {b} {c} {d} ea eb ec ed = rw (← ea, ← eb, ← ec, ← ed) (omega arith)

-- TWO FRACTIONS ARE EQUAL EXACTLY WHEN THEIR LOWEST TERMS ARE
pub lowest_same : (x y : Fraction) → zero < x.den → zero < y.den → SameFraction x y ↔ (lowest x ≡ lowest y)
unfolding divisor
lowest_same x y hx hy = (to, from)
  where
    to : SameFraction x y → lowest x ≡ lowest y
    to e =
        let ed = cross_den x.num x.den y.num y.den hx hy e in
        let en = cross_num x.num x.den y.num y.den (divisor x) (divisor y) hy e ed in
        let num = same_quotient (divisor_pos x hx) (divisor_pos y hy) (lowest_num x) (lowest_num y) en in
        let den = same_quotient (divisor_pos x hx) (divisor_pos y hy) (lowest_den x) (lowest_den y) ed in
        λ i. record { num = num i; den = den i }

    from : lowest x ≡ lowest y → SameFraction x y
    from e = cross_back (divisor x) (divisor y) (lowest x).num (lowest x).den (lowest_num x) (lowest_den x) (rw e (lowest_num y)) (rw e (lowest_den y))

-- lowest terms have nothing to divide
pub lowest_twice : (x : Fraction) → zero < x.den → lowest (lowest x) ≡ lowest x
lowest_twice x h = (lowest_same (lowest x) x (lowest_positive x h) h).0 (lowest_is_same x)
