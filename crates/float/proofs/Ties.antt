-- The root of no double above zero is a halfway point. A halfway point is an odd number times a power of two, and the odd number is above 2 ^ 53 unless the
-- power is 2 ^ 0; a double is a number below 2 ^ 53 times a power of two. Were the square of the one equal to the other, scaled, cancel the smaller power:
-- an odd square would be even, or the square of a number above 2 ^ 53 would be below 2 ^ 53. Assumes nothing.
use mathlib.Core.Path.{◌≡◌, sym, ap, ◌∙◌}
use Prim.Native.Nat.{ℕ, zero, suc, ◌+◌, ◌-◌, ◌*◌, ◌/◌, ◌%◌, ◌^◌, ◌≤◌, ◌<◌}
use native.Mathlib.Nat.{le_refl, lt_of_not-le, add-zero, sub-add_cancel, mul-one, mul_assoc, mul-mul-mul_comm, mul-le-mul, mul-pos, eq_of_mul-eq-mul_right, pow-suc}
use native.Mathlib.Decide.{dec_le}
use native.Mathlib.Omega.{arith}
use lib.Pow.{pow_pos, pow-add}
use Rattle.float.specs.Root.{units, halfway, scaled}
use Rattle.float.proofs.Units.{units_small, units_normal, units_at, units_mono}

-- ---- a halfway point: an odd number times a power of two

record Odd (x : ℕ) : Type 0 where
  half : ℕ
  power : ℕ
  same : x ≡ (2 * half + 1) * 2 ^ power
  large : 0 < power → 2 ^ 52 ≤ half

-- the doubles p and suc p are q and suc q times the same power
halfway_of_neighbors : (p q F : ℕ) → units p ≡ q * 2 ^ F → units (suc p) ≡ suc q * 2 ^ F → halfway (suc p) ≡ (2 * q + 1) * 2 ^ F
unfolding halfway
halfway_of_neighbors p q F e f = ap (λ (x : ℕ). units x + units (suc p)) (back p) ∙ sum (units p) (units (suc p)) q (2 ^ F) e f
  where
    back : (x : ℕ) → suc x - 1 ≡ x
    back x = omega arith

    sum : (x y a z : ℕ) → x ≡ a * z → y ≡ suc a * z → x + y ≡ (2 * a + 1) * z
    sum x y a z g h = omega arith

halfway_small : (p : ℕ) → p < 2 ^ 52 → Odd (halfway (suc p))
halfway_small p h = record {
  half = p;
  power = 0;
  same = halfway_of_neighbors p p 0 (units_small p h ∙ sym (mul-one p)) (next (dec_le (2 ^ 52) (suc p)));
  large = λ (z : 0 < 0). omega arith;
}
  where
    next : Dec (2 ^ 52 ≤ suc p) → units (suc p) ≡ suc p * 2 ^ 0
    next (yes l) = rw add-zero at (units_at (suc p) 0 l (omega arith))
    next (no f) = units_small (suc p) (lt_of_not-le f) ∙ sym (mul-one (suc p))

halfway_normal : (p : ℕ) → 2 ^ 52 ≤ p → Odd (halfway (suc p))
halfway_normal p h =
    let q = 2 ^ 52 + p % 2 ^ 52 in
    let F = p / 2 ^ 52 - 1 in
    let e : suc p ≡ suc q + F * 2 ^ 52 = omega arith in
    record {
      half = q;
      power = F;
      same = halfway_of_neighbors p q F (units_normal p h) (ap units e ∙ units_at (suc q) F (omega arith) (omega arith));
      large = λ (z : 0 < F). omega arith;
    }

halfway_odd : (p : ℕ) → Odd (halfway (suc p))
halfway_odd p =
    elim (dec_le (2 ^ 52) p) [
      | yes h ↦ halfway_normal p h
      | no f ↦ halfway_small p (lt_of_not-le f)
    ]

-- ---- a double: a number below 2 ^ 53 times a power of two

record Short (x : ℕ) : Type 0 where
  digits : ℕ
  power : ℕ
  same : x ≡ digits * 2 ^ power
  few : digits < 2 ^ 53

units_short : (n : ℕ) → Short (units n)
units_short n =
    elim (dec_le (2 ^ 52) n) [
      | yes h ↦ record { digits = 2 ^ 52 + n % 2 ^ 52; power = n / 2 ^ 52 - 1; same = units_normal n h; few = omega arith }
      | no f ↦ record { digits = n; power = 0; same = units_small n (lt_of_not-le f) ∙ sym (mul-one n); few = omega arith }
    ]

-- ---- the square of the one is not the other, scaled

odd_square_not_even : (h m d : ℕ) → 0 < d → m * 2 ^ d ≡ (2 * h + 1) * (2 * h + 1) → ⊥
odd_square_not_even h m zero p e = omega arith
odd_square_not_even h m (suc d) p e = omega (arith, ap (λ (x : ℕ). m * x) (pow-suc 2 d))

large_square_not_short : (h m d : ℕ) → 2 ^ 52 ≤ h → m < 2 ^ 53 → (2 * h + 1) * (2 * h + 1) * 2 ^ d ≡ m → ⊥
large_square_not_short h m d l s e =
    let t : 1 * (2 * h + 1) * 1 ≤ (2 * h + 1) * (2 * h + 1) * 2 ^ d = mul-le-mul (mul-le-mul (omega arith) (le_refl (2 * h + 1))) (pow_pos d) in
    omega arith

join_powers : (x i j : ℕ) → x * 2 ^ i * 2 ^ j ≡ x * 2 ^ (i + j)
join_powers x i j = mul_assoc x (2 ^ i) (2 ^ j) ∙ ap (λ (z : ℕ). x * z) (sym (pow-add 2 i j))

cancel_power : (x y i j : ℕ) → j ≤ i → x * 2 ^ i ≡ y * 2 ^ j → x * 2 ^ (i - j) ≡ y
cancel_power x y i j h e = eq_of_mul-eq-mul_right (2 ^ j) (pow_pos j) _ _ (join_powers x (i - j) j ∙ ap (λ (k : ℕ). x * 2 ^ k) (sub-add_cancel h) ∙ e)

square_not_short : (h k m j : ℕ) → (0 < k → 2 ^ 52 ≤ h) → m < 2 ^ 53 → 0 < j → (2 * h + 1) * (2 * h + 1) * 2 ^ (k + k) ≡ m * 2 ^ j → ⊥
square_not_short h k m j l s p e =
    let o = (2 * h + 1) * (2 * h + 1) in
    elim (dec_le j (k + k)) [
      | yes g ↦ large_square_not_short h m (k + k - j) (l (omega arith)) s (cancel_power o m (k + k) j g e)
      | no f ↦ odd_square_not_even h m (j - (k + k)) (omega arith) (cancel_power m o j (k + k) (omega arith) (sym e))
    ]

odd_not_short : (x u c : ℕ) → Odd x → Short u → 0 < c → x * x ≡ u * 2 ^ c → ⊥
odd_not_short x u c o s p e =
    let z = 2 * o.half + 1 in
    let k = o.power in
    square_not_short o.half k s.digits (s.power + c) o.large s.few (omega arith)
    (ap (λ (y : ℕ). z * z * y) (pow-add 2 k k) ∙ sym (mul-mul-mul_comm z (2 ^ k) z (2 ^ k)) ∙ sym (ap (λ (y : ℕ). y * y) o.same)
    ∙ e ∙ ap (λ (y : ℕ). y * 2 ^ c) s.same ∙ join_powers s.digits s.power c)

-- ---- together

zero_not_scaled : (n : ℕ) → 0 < n → halfway 0 * halfway 0 ≡ scaled (units n) → ⊥
unfolding halfway units
zero_not_scaled n p e = not_zero (scaled (units n)) (mul-pos (units_mono 1 n p) (pow_pos 1076)) e
  where
    not_zero : (x : ℕ) → 0 < x → 0 ≡ x → ⊥
    not_zero x l z = omega arith

-- the root of no double above zero is a halfway point
pub no_tie : (n b : ℕ) → 0 < n → halfway b * halfway b ≡ scaled (units n) → ⊥
no_tie n zero p e = zero_not_scaled n p e
no_tie n (suc b) p e = odd_not_short (halfway (suc b)) (units n) 1076 (halfway_odd b) (units_short n) (omega arith) e
