-- A number of n digits is below 10 ^ n, so that one of at most 15 digits is below 10 ^ 15. By induction on the digits: n of them after those of the number v
-- make one below (v + 1) * 10 ^ n. Assumes nothing.
use Prim.Native.Nat.{ℕ, suc, ◌+◌, ◌*◌, ◌^◌, ◌≤◌, ◌<◌}
use mathlib.Core.Bool.{Bool, true, false, and-eq-true_iff}
use mathlib.Core.List.{List, [], ◌∷◌, ◌++◌}
use mathlib.Core.Path.{◌≡◌, refl}
use native.Mathlib.Nat.{lt_of_lt_of_le, mul_assoc, mul_comm, mul-le-mul_right, one-mul, pow-suc, pow-le-pow_right}
use native.Mathlib.Omega.{arith}
use borrow.Author.Tests.{leb-true}
use lib.Dec.{leb, lit<}
use lib.ListN.{length, length-append}
use lib.Pow.{pow-add}
use Rattle.float.specs.Pick.{pick}
use Rattle.scan.specs.Bytes.{is, is_digit, digit}
use Rattle.length.specs.Literals.{Run, digits, number, fraction}
use Rattle.length.proofs.Runs.{number_append}

abbrev Below : List ℕ → Type 0
Below ds = (v : ℕ) → number v ds < suc v * 10 ^ length ds

below_none : Below []
unfolding number
below_none v = omega arith

below_digit : (b : ℕ) (ds : List ℕ) → is_digit b ≡ true → Below ds → Below (b ∷ ds)
unfolding number is_digit
below_digit b ds e h v =
    let k : b ≤ 57 = leb-true b 57 ((and-eq-true_iff (leb 48 b) (leb b 57)).0 e).1 in
    let l : suc (v * 10 + digit b) ≤ suc v * 10 = omega arith in
    lt_of_lt_of_le (h (v * 10 + digit b)) (rw (pow-suc, mul_comm (10 ^ length ds) 10, ← mul_assoc) (mul-le-mul_right (10 ^ length ds) l))

below_append : (xs ys : List ℕ) → Below xs → Below ys → Below (xs ++ ys)
below_append xs ys h k v =
    rw (number_append, length-append, pow-add, ← mul_assoc) (lt_of_lt_of_le (k (number v xs)) (mul-le-mul_right (10 ^ length ys) (h v)))

below_picked : (t : Bool) (r q : Run) → (t ≡ true → Below r.front) → Below q.front → Below (pick t r q).front
below_picked true r q h k = h refl
below_picked false r q h k = k

below_digits : (s : List ℕ) → Below (digits s).front
unfolding digits
below_digits [] = below_none
below_digits (b ∷ bs) = let h = below_digits bs in below_picked (is_digit b) _ _ (λ e. below_digit b _ e h) below_none

below_fraction : (s : List ℕ) → Below (fraction s).front
unfolding fraction
below_fraction [] = below_none
below_fraction (b ∷ bs) = below_picked (is "." b) _ _ (λ _. below_digits bs) below_none

pub fifteen_digits : (s : List ℕ) → let ds = (digits s).front ++ (fraction (digits s).rest).front in length ds ≤ 15 → number 0 ds < 10 ^ 15
fifteen_digits s h =
    let k = below_append _ _ (below_digits s) (below_fraction (digits s).rest) 0 in
    lt_of_lt_of_le (rw one-mul at k) (pow-le-pow_right (lit< tt) h)
