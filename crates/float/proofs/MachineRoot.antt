-- The machine's root is `root_of`. The kit's `sqrt` takes the root to 2271 binary places and half a place more where it goes on, and rounds that: a
-- halfway point is a whole number of such places, so what is rounded lies between the same two halfway points as the root. `round` is at most half of
-- its unit away from what it rounds, so the double that it gives has no other halfway points about it. Assumes nothing.
use mathlib.Core.Path.{◌≡◌, refl, sym, ap, ◌∙◌, subst}
use mathlib.Core.Logic.{◌⊎◌, inl, inr}
use mathlib.Core.Bool.{Bool, true, false, cond}
use Prim.Native.Nat.{ℕ, zero, suc, ◌+◌, ◌-◌, ◌*◌, ◌/◌, ◌%◌, ◌^◌, ◌≤◌, ◌<◌, compare, Ordering}
use native.Mathlib.Nat.{le_trans, le_of_eq, lt_of_not-le, not-le_of_lt, lt_of_le_of_lt, lt_of_lt_of_le, lt_trans, div-add-mod', eq-or-lt_of_le, mul-one, mul_assoc, mul_right_comm, mul-mul-mul_comm, mod-lt, mul-le-mul_right, mul-le-mul, mul-lt-mul_of_pos_right, lt_of_mul-lt-mul_right, mul-pos, mul-div_cancel, div-div-eq-div-mul, le-div_iff_mul-le, pow-succ'}
use native.Mathlib.Decide.{dec_le}
use native.Mathlib.Omega.{arith}
use borrow.Author.Tests.{eqb-true, leb-true, leb-false}
use lib.Dec.{T, eqb, is_le, compare_is_eq, lit<}
use lib.IntN.{ℤ, pos}
use lib.Pow.{pow_pos, pow-add}
use lib.Ieee.{Float, nan, inf, fin, binary64, up, down, size, nearest, round, root_below, root_twice, sqrt, fits, of_bits, to_bits}
use lib.Ieee.{units as rounded_units}
use lib.Ieee.Bits.{of_bits-to_bits, of_bits-fits}
use lib.Ieee.Digits.{size_reaches}
use lib.Ieee.Exact.{HasValue, units_val}
use lib.Ieee.Fits.{down_pos, kept-lt, nearest-le, round_is, round-fits}
use lib.Ieee.Nearest.{nearest-ge}
use lib.Ieee.Root.{whole_part}
use Rattle.float.specs.Root.{units, halfway, scaled, root_bits, root_of}
use Rattle.float.proofs.Units.{units_small, units_at, units_mono, halfway_mono}
use Rattle.float.proofs.NearestRoot as nearest_root
use Rattle.float.proofs.Values.{bits_value}

-- ---- twice a whole root, as the kit has it, is on the same side of 2 * g as the number is of g * g

less_root : (a b : ℕ) → a * a < b * b → a < b
less_root a b h = lt_of_not-le (λ (k : b ≤ a). not-le_of_lt h (mul-le-mul k k))

above_by : (r n g : ℕ) (t : Bool) → n < (r + 1) * (r + 1) → eqb (r * r) n ≡ t → g * g < n → 2 * g < 2 * r + cond t 0 1
above_by r n g true w e h = let l = less_root g r (lt_of_lt_of_le h (le_of_eq (sym (eqb-true (r * r) n e)))) in omega arith
above_by r n g false w e h = let l = less_root g (r + 1) (lt_trans h w) in omega arith

under_by : (r n g : ℕ) (t : Bool) → r * r ≤ n → n < g * g → 2 * r + cond t 0 1 < 2 * g
under_by r n g true w h = let l = less_root r g (lt_of_le_of_lt w h) in omega arith
under_by r n g false w h = let l = less_root r g (lt_of_le_of_lt w h) in omega arith

module _ (n g : ℕ) where
  root_above : g * g < n → 2 * g < root_twice n
  unfolding root_twice
  root_above h = above_by (root_below (size n) n) n g _ (whole_part n).1 refl h

  root_under : n < g * g → root_twice n < 2 * g
  unfolding root_twice
  root_under h = under_by (root_below (size n) n) n g _ (whole_part n).0 h

-- ---- a fraction rounded to a whole number is at most a half away from it

Near : ℕ → ℕ → ℕ → Type 0
Near a b q = (2 * q * b ≤ 2 * a + b) × (2 * a ≤ 2 * q * b + b)

tie_near : (w r b p : ℕ) → p ≤ 1 → r * 2 ≡ b → (2 * (w + p) * b ≤ 2 * (w * b + r) + b) × (2 * (w * b + r) ≤ 2 * (w + p) * b + b)
tie_near w r b zero h e = (omega arith, omega arith)
tie_near w r b (suc zero) h e = (omega arith, omega arith)
tie_near w r b (suc (suc p)) h e = absurd (omega arith)

near_by : (w r b : ℕ) (o : Ordering) → r < b → compare (r * 2) b ≡ o → (2 * nearest w o * b ≤ 2 * (w * b + r) + b) × (2 * (w * b + r) ≤ 2 * nearest w o * b + b)
near_by w r b Ordering.lt h e = let l = leb-true (r * 2) b (ap is_le e) in (omega arith, omega arith)
near_by w r b Ordering.eq h e = tie_near w r b (w % 2) (omega arith) (eqb-true (r * 2) b (ap compare_is_eq e))
near_by w r b Ordering.gt h e = let l = leb-false (r * 2) b (ap is_le e) in (omega arith, omega arith)

nearest_near : (a b : ℕ) → 0 < b → Near a b (nearest (a / b) (compare (a % b * 2) b))
unfolding Near
nearest_near a b h =
    subst (λ (x : ℕ). (2 * nearest (a / b) (compare (a % b * 2) b) * b ≤ 2 * x + b) × (2 * x ≤ 2 * nearest (a / b) (compare (a % b * 2) b) * b + b))
    (div-add-mod' a b) (near_by (a / b) (a % b) b (compare (a % b * 2) b) (mod-lt a h) refl)

-- ---- q of 2 ^ k units each: the double with that pattern, and the halfway points about it

abbrev Full : ℕ → ℕ → Type 0
Full q zero = Unit {0}
Full q (suc k) = 2 ^ 52 ≤ q

units_kept : (q k : ℕ) → q ≤ 2 ^ 53 → Full q k → units (q + k * 2 ^ 52) ≡ q * 2 ^ k
units_kept q zero h l = ap units plain ∙ by (dec_le (2 ^ 52) q) ∙ sym (mul-one q)
  where
    plain : q + 0 * 2 ^ 52 ≡ q
    plain = omega arith

    by : Dec (2 ^ 52 ≤ q) → units q ≡ q
    by (yes p) = ap units (sym plain) ∙ units_at q 0 p h ∙ mul-one q
    by (no f) = units_small q (lt_of_not-le f)
units_kept q (suc k) h l = units_at q (suc k) l h

units_next : (q k : ℕ) → q ≤ 2 ^ 53 → Full q k → (q + 1) * 2 ^ k ≤ units (q + k * 2 ^ 52 + 1)
units_next q k h l = by (eq-or-lt_of_le h)
  where
    more : (q k : ℕ) → Full q k → Full (q + 1) k
    more q zero l = tt {0}
    more q (suc k) l = omega arith

    shift : (x y : ℕ) → x + y + 1 ≡ x + 1 + y
    shift x y = omega arith

    carried : (k : ℕ) → 2 ^ 53 + k * 2 ^ 52 + 1 ≡ 2 ^ 52 + 1 + suc k * 2 ^ 52
    carried k = omega arith

    double : (P : ℕ) → (2 ^ 53 + 1) * P ≤ (2 ^ 52 + 1) * (2 * P)
    double P = omega arith

    top : (2 ^ 53 + 1) * 2 ^ k ≤ units (2 ^ 53 + k * 2 ^ 52 + 1)
    top = le_trans (double (2 ^ k)) (le_of_eq (ap (λ (x : ℕ). (2 ^ 52 + 1) * x) (sym (pow-succ' 2 k)) ∙ sym (units_at (2 ^ 52 + 1) (suc k) (omega arith) (omega arith)) ∙ ap units (sym (carried k))))

    by : (q ≡ 2 ^ 53) ⊎ (q < 2 ^ 53) → (q + 1) * 2 ^ k ≤ units (q + k * 2 ^ 52 + 1)
    by (inl e) = subst (λ (x : ℕ). (x + 1) * 2 ^ k ≤ units (x + k * 2 ^ 52 + 1)) (sym e) top
    by (inr s) = le_of_eq (sym (ap units (shift q (k * 2 ^ 52)) ∙ units_kept (q + 1) k (omega arith) (more q k l)))

-- n / d units, of which q is kept
module _ (n d : ℕ) where
  not_under : (q k : ℕ) → q ≤ 2 ^ 53 → Full q k → 2 * n ≤ 2 * q * (d * 2 ^ k) + d * 2 ^ k → 2 * n ≤ halfway (q + k * 2 ^ 52 + 1) * d
  unfolding halfway
  not_under q k few many near = up (units (q + k * 2 ^ 52 + 1 - 1)) (units (q + k * 2 ^ 52 + 1)) (2 ^ k) (ap units (back (q + k * 2 ^ 52)) ∙ units_kept q k few many) (units_next q k few many) near
    where
      back : (x : ℕ) → x + 1 - 1 ≡ x
      back x = omega arith

      up : (x y P : ℕ) → x ≡ q * P → (q + 1) * P ≤ y → 2 * n ≤ 2 * q * (d * P) + d * P → 2 * n ≤ (x + y) * d
      up x y P e h l =
          let s : q * P + (q + 1) * P ≤ x + y = omega arith in
          let t = mul-le-mul_right d s in
          omega arith

  -- the fraction's whole part has all the digits that are kept, where any are dropped
  abbrev Reached : ℕ → Type 0
  Reached zero = Unit {0}
  Reached (suc k) = 2 ^ 52 * (d * 2 ^ suc k) ≤ n

  less : (x : ℕ) → x - 1 ≤ x
  less x = omega arith

  -- the double before it
  back : (p y : ℕ) → suc p + y - 1 ≡ p + y
  back p y = omega arith

  one_down : (p P x y : ℕ) → x ≡ p * P → y ≡ suc p * P → 2 * suc p * (d * P) ≤ 2 * n + d * P → (x + y) * d ≤ 2 * n
  one_down p P x y e f l = rw (e, f) (omega arith)

  level : (p P x y : ℕ) → x ≤ y → y ≡ suc p * P → suc p ≤ 2 ^ 52 → 2 ^ 52 * (d * P) ≤ n → (x + y) * d ≤ 2 * n
  level p P x y l e h g =
      let s : x + y ≤ 2 * (suc p * P) = omega arith in
      let t = mul-le-mul_right d s in
      let r = mul-le-mul_right (P * d) h in
      omega arith

  not_above : (q k : ℕ) → q ≤ 2 ^ 53 → Full q k → Reached k → 2 * q * (d * 2 ^ k) ≤ 2 * n + d * 2 ^ k → halfway (q + k * 2 ^ 52) * d ≤ 2 * n
  unfolding halfway
  not_above zero zero few many low near = omega arith
  not_above zero (suc k) few many low near = absurd (omega arith)
  not_above (suc p) zero few many low near = one_down p 1 _ _ (ap units (back p 0) ∙ units_kept p 0 (omega arith) (tt {0})) (units_kept (suc p) 0 few (tt {0})) near
  not_above (suc p) (suc k) few many low near =
      elim (dec_le (2 ^ 52) p) [
        | yes h ↦ one_down p (2 ^ suc k) _ _ (ap units (back p (suc k * 2 ^ 52)) ∙ units_kept p (suc k) (omega arith) h) (units_kept (suc p) (suc k) few many) near
        | no f ↦ level p (2 ^ suc k) _ _ (units_mono _ _ (less (suc p + suc k * 2 ^ 52))) (units_kept (suc p) (suc k) few many) (omega arith) low
      ]

-- ---- what `round` keeps of n / d units: as many units as double the fraction's own, to the nearest

module _ (n d : ℕ) (some : 0 < d) where
  abbrev dropped : ℕ
  dropped = size (n / d) - 53

  whole_part_full : (k : ℕ) → k ≡ dropped → Full (n / (d * 2 ^ k)) k
  whole_part_full zero e = tt {0}
  whole_part_full (suc k) e =
      let reached : 2 ^ (52 + suc k) ≤ n / d = size_reaches (n / d) (52 + suc k) (omega arith) in
      subst (λ (x : ℕ). 2 ^ 52 ≤ x) (div-div-eq-div-mul n d (2 ^ suc k))
      ((le-div_iff_mul-le (pow_pos (suc k))).1 (subst (λ (x : ℕ). x ≤ n / d) (pow-add 2 52 (suc k)) reached))

  more_full : (w q k : ℕ) → w ≤ q → Full w k → Full q k
  more_full w q zero h f = tt {0}
  more_full w q (suc k) h f = le_trans f h

  reached : (k : ℕ) → Full (n / (d * 2 ^ k)) k → Reached n d k
  reached zero f = tt {0}
  reached (suc k) f = (le-div_iff_mul-le (mul-pos some (pow_pos (suc k)))).0 f

  abbrev kept : ℕ
  kept = nearest (n / (d * 2 ^ dropped)) (compare (n % (d * 2 ^ dropped) * 2) (d * 2 ^ dropped))

  few : kept ≤ 2 ^ 53
  few = le_trans (nearest-le _ _) (subst (λ (x : ℕ). x < 2 ^ 53) (div-div-eq-div-mul n d (2 ^ dropped)) (kept-lt 53 (n / d)))

  full : Full kept dropped
  full = more_full (n / (d * 2 ^ dropped)) kept dropped (nearest-ge _ _) (whole_part_full dropped refl)

  near : Near n (d * 2 ^ dropped) kept
  near = nearest_near n (d * 2 ^ dropped) (mul-pos some (pow_pos dropped))

  abbrev pattern : ℕ
  pattern = kept + dropped * 2 ^ 52

  pattern_above : halfway pattern * d ≤ 2 * n
  unfolding Near
  pattern_above = not_above n d kept dropped few full (reached dropped (whole_part_full dropped refl)) near.0

  pattern_under : 2 * n ≤ halfway (pattern + 1) * d
  unfolding Near
  pattern_under = not_under n d kept dropped few full near.1

  -- between the halfway points about t, it is t
  pattern_is : (t : ℕ) → halfway t * d < 2 * n → 2 * n < halfway (t + 1) * d → pattern ≡ t
  pattern_is t over under =
      let low : halfway t < halfway (pattern + 1) = lt_of_mul-lt-mul_right d (lt_of_lt_of_le over pattern_under) in
      let high : halfway pattern < halfway (t + 1) = lt_of_mul-lt-mul_right d (lt_of_le_of_lt pattern_above under) in
      let a : t < pattern + 1 = before t (pattern + 1) low in
      let b : pattern < t + 1 = before pattern (t + 1) high in
      omega arith
    where
      before : (x y : ℕ) → halfway x < halfway y → x < y
      before x y h = lt_of_not-le (λ (k : y ≤ x). not-le_of_lt h (halfway_mono y x k))

-- ---- a double that fits is told by its value

units_pattern : (x : Float) (c : ℕ) → HasValue x false c (2 ^ 1074) → to_bits binary64 x ≡ 0 + (size c - 53) * 2 ^ 52 + c / 2 ^ (size c - 53)
unfolding to_bits
units_pattern nan c h = absurd h
units_pattern (inf s) c h = absurd h
units_pattern (fin s m e) c h =
    let n : m * up e * 2 ^ 1074 / down e ≡ c = ap (λ (x : ℕ). x / down e) h.1 ∙ mul-div_cancel c (down_pos e) in
    ap (λ (t : Bool). cond t (2 ^ 63) 0 + (size (m * up e * 2 ^ 1074 / down e) - 53) * 2 ^ 52 + m * up e * 2 ^ 1074 / down e / 2 ^ (size (m * up e * 2 ^ 1074 / down e) - 53)) h.0
    ∙ ap (λ (x : ℕ). 0 + (size x - 53) * 2 ^ 52 + x / 2 ^ (size x - 53)) n

same_value : (x y : Float) (c : ℕ) → T (fits binary64 x) → T (fits binary64 y) → HasValue x false c (2 ^ 1074) → HasValue y false c (2 ^ 1074) → x ≡ y
same_value x y c f g h i =
    sym (of_bits-to_bits binary64 x f) ∙ ap (of_bits binary64) (units_pattern x c h ∙ sym (units_pattern y c i)) ∙ of_bits-to_bits binary64 y g

-- ---- a fraction between the halfway points about a finite double rounds to it

largest : units 0x7fef_ffff_ffff_ffff < 2 ^ 2098
unfolding units
largest = lit< tt

finite_units : (t : ℕ) → t < 0x7ff0_0000_0000_0000 → units t < 2 ^ 2098
finite_units t h = lt_of_le_of_lt (units_mono t 0x7fef_ffff_ffff_ffff (omega arith)) largest

rounds_to : (num d t : ℕ) → 0 < d → t < 0x7ff0_0000_0000_0000 → halfway t * d < 2 * (num * 2 ^ 1074) → 2 * (num * 2 ^ 1074) < halfway (t + 1) * d
    → round binary64 false num d ≡ of_bits binary64 t
rounds_to num d t some finite over under =
    let n = num * 2 ^ 1074 in
    let q = kept n d some in
    let k = dropped n d some in
    let e : units t ≡ q * 2 ^ k = ap units (sym (pattern_is n d some t over under)) ∙ units_kept q k (few n d some) (full n d some) in
    same_value (round binary64 false num d) (of_bits binary64 t) (units t) (round-fits binary64 false num d) (of_bits-fits binary64 t)
    (subst (λ (x : Float). HasValue x false (units t) (2 ^ 1074)) (sym (round_is binary64 false num d))
    (subst (λ (x : ℕ). HasValue (rounded_units binary64 false q k) false x (2 ^ 1074)) (sym e)
    (units_val binary64 false q k (subst (λ (x : ℕ). x < 2 ^ 2098) e (finite_units t finite)))))
    (bits_value t finite)

-- ---- the root of u units

-- in the kit's places
places : (x d u i j : ℕ) → 0 < d → x * 2 ^ i ≡ u * d → x * 2 ^ (i + j) / d ≡ u * 2 ^ j
places x d u i j h e =
    ap (λ (y : ℕ). y / d)
    (ap (λ (y : ℕ). x * y) (pow-add 2 i j) ∙ sym (mul_assoc x (2 ^ i) (2 ^ j)) ∙ ap (λ (y : ℕ). y * 2 ^ j) e ∙ mul_right_comm u d (2 ^ j))
    ∙ mul-div_cancel (u * 2 ^ j) h

-- a halfway point in the same places
module _ (u h : ℕ) where
  abbrev half : ℕ
  half = 2 ^ 1196

  square : (P : ℕ) → h * h * (P * P) ≡ h * P * (h * P)
  square P = mul-mul-mul_comm h h P P

  scaled_more : u * 2 ^ 3468 ≡ scaled u * (half * half)
  scaled_more = sym (mul_assoc u (4 * 2 ^ 1074) (half * half))

  spread_over : (a P S : ℕ) → 0 < S → 2 * (h * P) < a → h * (2 * P * (2 * S)) < 2 * (a * S)
  spread_over a P S p l = let t = mul-lt-mul_of_pos_right l p in omega arith

  spread_under : (a P S : ℕ) → 0 < S → a < 2 * (h * P) → 2 * (a * S) < h * (2 * P * (2 * S))
  spread_under a P S p l = let t = mul-lt-mul_of_pos_right l p in omega arith

  root_over : h * h < scaled u → h * 2 ^ 2272 < 2 * (root_twice (u * 2 ^ 3468) * 2 ^ 1074)
  root_over l =
      spread_over (root_twice (u * 2 ^ 3468)) half (2 ^ 1074) (pow_pos 1074)
      (root_above (u * 2 ^ 3468) (h * half) (rw (← square half, scaled_more) (mul-lt-mul_of_pos_right l (mul-pos (pow_pos 1196) (pow_pos 1196)))))

  root_beneath : scaled u < h * h → 2 * (root_twice (u * 2 ^ 3468) * 2 ^ 1074) < h * 2 ^ 2272
  root_beneath l =
      spread_under (root_twice (u * 2 ^ 3468)) half (2 ^ 1074) (pow_pos 1074)
      (root_under (u * 2 ^ 3468) (h * half) (rw (← square half, scaled_more) (mul-lt-mul_of_pos_right l (mul-pos (pow_pos 1196) (pow_pos 1196)))))

-- ---- together

positive : (m : ℕ) (e : ℤ) → T (fits binary64 (fin false (suc m) e)) → sqrt binary64 (fin false (suc m) e) ≡ root_of (fin false (suc m) e)
unfolding sqrt
positive m e held =
    let u = units (nearest_root.n m e held) in
    let t = root_bits u in
    let b = nearest_root.between m e held in
    ap (λ (x : ℕ). round binary64 false (root_twice x) (2 ^ 2272)) (places (suc m * up e) (down e) u 1074 3468 (down_pos e) (nearest_root.of_v m e held).1)
    ∙ rounds_to (root_twice (u * 2 ^ 3468)) (2 ^ 2272) t (pow_pos 2272) (nearest_root.finite u (nearest_root.few m e held)) (root_over u (halfway t) b.low) (root_beneath u (halfway (t + 1)) b.high)
    ∙ sym (nearest_root.of_r m e held)

-- a zero that fits is written in one way
zero_units : (x y d : ℕ) → 0 < d → 0 * x * y / d ≡ 0
zero_units x y d h = ap (λ (z : ℕ). z / d) none ∙ mul-div_cancel 0 h
  where
    none : 0 * x * y ≡ 0 * d
    none = omega arith

zero_bits : (s : Bool) (e : ℤ) → to_bits binary64 (fin s zero e) ≡ to_bits binary64 (fin s zero (pos 0))
unfolding to_bits
zero_bits s e = ap (λ (n : ℕ). cond s (2 ^ 63) 0 + (size n - 53) * 2 ^ 52 + n / 2 ^ (size n - 53)) (zero_units (up e) (2 ^ 1074) (down e) (down_pos e))

zero_fits : (s : Bool) → T (fits binary64 (fin s zero (pos 0)))
unfolding fits
zero_fits s = tt

-- for every double
pub machine_root : (v : Float) → T (fits binary64 v) → sqrt binary64 v ≡ root_of v
unfolding sqrt root_of
machine_root nan f = refl
machine_root (inf false) f = refl
machine_root (inf true) f = refl
machine_root (fin s zero e) f = sym (of_bits-to_bits binary64 (fin s zero (pos 0)) (zero_fits s)) ∙ ap (of_bits binary64) (sym (zero_bits s e)) ∙ of_bits-to_bits binary64 (fin s zero e) f
machine_root (fin true (suc m) e) f = refl
machine_root (fin false (suc m) e) f = positive m e f
