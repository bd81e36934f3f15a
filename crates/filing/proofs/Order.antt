-- Byte order is a total order, by recursion on both lists. On numbers of equally many bytes it is the order of the numbers: the highest byte that differs
-- decides both. Assumes nothing.
use mathlib.Core.List.{List, [], ◌∷◌, ◌++◌}
use mathlib.Core.Logic.{◌⊎◌, inl, inr}
use mathlib.Core.Path.{◌≡◌, refl, ap₂, ◌∙◌}
use Prim.Native.Nat.{ℕ, zero, suc, ◌+◌, ◌*◌, ◌/◌, ◌%◌, ◌^◌, ◌<◌}
use native.Mathlib.Decide.{dec_lt}
use native.Mathlib.Nat.{zero-lt-suc, suc_inj, suc-ne-zero, lt_irrefl, lt_trans, lt_of_lt_of_le, lt_of_le_of_lt, le_of_eq, mod-one, mod-lt, mod-eq_of_lt, mul-le-mul_right, pow-succ', one-le-pow}
use native.Mathlib.Omega.{arith}
use lib.Arith.{mod-mul}
use lib.ListN.{length}
use Rattle.filing.specs.Bytes.{bytes, ◌≼◌, ends, less, same}

pub ≼_refl : (xs : List ℕ) → xs ≼ xs
≼_refl [] = ends
≼_refl (x ∷ xs) = same refl (≼_refl xs)

pub ≼_antisym : {xs ys : List ℕ} → xs ≼ ys → ys ≼ xs → xs ≡ ys
≼_antisym ends ends = refl
≼_antisym (less p) (less q) = let z : ⊥ = omega arith in absurd z
≼_antisym (less p) (same q b) = let z : ⊥ = omega arith in absurd z
≼_antisym (same p a) (less q) = let z : ⊥ = omega arith in absurd z
≼_antisym (same p a) (same q b) = ap₂ ◌∷◌ p (≼_antisym a b)

pub ≼_trans : {xs ys zs : List ℕ} → xs ≼ ys → ys ≼ zs → xs ≼ zs
≼_trans ends b = ends
≼_trans (less p) (less q) = less (lt_trans p q)
≼_trans (less p) (same q b) = less (lt_of_lt_of_le p (le_of_eq q))
≼_trans (same p a) (less q) = less (lt_of_le_of_lt (le_of_eq p) q)
≼_trans (same p a) (same q b) = same (p ∙ q) (≼_trans a b)

unfoldable pub ≼_total : (xs ys : List ℕ) → (xs ≼ ys) ⊎ (ys ≼ xs)
≼_total [] ys = inl ends
≼_total (x ∷ xs) [] = inr ends
≼_total (x ∷ xs) (y ∷ ys) = go (dec_lt x y) (dec_lt y x) (≼_total xs ys)
  where
    go : Dec (x < y) → Dec (y < x) → (xs ≼ ys) ⊎ (ys ≼ xs) → ((x ∷ xs) ≼ (y ∷ ys)) ⊎ ((y ∷ ys) ≼ (x ∷ xs))
    go (yes p) d r = inl (less p)
    go (no p) (yes q) r = inr (less q)
    go (no p) (no q) (inl r) = let e : x ≡ y = omega arith in inl (same e r)
    go (no p) (no q) (inr r) = let e : y ≡ x = omega arith in inr (same e r)

pub ≼_after : (a : List ℕ) {xs ys : List ℕ} → xs ≼ ys → (a ++ xs) ≼ (a ++ ys)
≼_after [] h = h
≼_after (x ∷ a) h = same refl (≼_after a h)

pub ≼_before : (a : List ℕ) {xs ys : List ℕ} → (a ++ xs) ≼ (a ++ ys) → xs ≼ ys
≼_before [] h = h
≼_before (x ∷ a) (less h) = absurd (lt_irrefl x h)
≼_before (x ∷ a) (same e h) = ≼_before a h

pub ≼_front : (a b xs ys : List ℕ) → length a ≡ length b → (a ++ xs) ≼ (b ++ ys) → a ≼ b
≼_front [] b xs ys l h = ends
≼_front (x ∷ a) [] xs ys l h = absurd (suc-ne-zero (length a) l)
≼_front (x ∷ a) (y ∷ b) xs ys l (less h) = less h
≼_front (x ∷ a) (y ∷ b) xs ys l (same e h) = same e (≼_front a b xs ys (suc_inj l) h)

-- ---- numbers

-- the higher digit decides, and between equal ones the rest
digits_less : (a b : ℕ) {p r s : ℕ} → s < p → a * p + r < b * p + s → (a < b) ⊎ ((a ≡ b) × (r < s))
digits_less a b {p} {r} {s} hs h = go (dec_lt a b) (dec_lt b a)
  where
    go : Dec (a < b) → Dec (b < a) → (a < b) ⊎ ((a ≡ b) × (r < s))
    go (yes k) d = inl k
    go (no k) (yes m) = let z : ⊥ = omega (arith, mul-le-mul_right p m) in absurd z
    go (no k) (no m) = let e : a ≡ b = omega arith in inr (e, omega (arith, rw e at h))

by_first : {a b : ℕ} {R : Type 0} {l m : List ℕ} → (a < b) ⊎ ((a ≡ b) × R) → (R → l ≼ m) → (a ∷ l) ≼ (b ∷ m)
by_first (inl h) f = less h
by_first (inr h) f = same h.0 (f h.1)

-- of any two numbers, by what w bytes hold of them
low_bytes_less : (w x y : ℕ) (l m : List ℕ) → x % 256 ^ w < y % 256 ^ w → (bytes w x ++ l) ≼ (bytes w y ++ m)
unfolding bytes
low_bytes_less zero x y l m h = let z : ⊥ = omega (arith, mod-one x, mod-one y) in absurd z
low_bytes_less (suc w) x y l m h =
    let pos : zero < 256 ^ w = one-le-pow w 256 (zero-lt-suc 255) in
    let digits = rw (pow-succ' 256 w, mod-mul x (zero-lt-suc 255) pos, mod-mul y (zero-lt-suc 255) pos) at h in
    by_first (digits_less (x / 256 ^ w % 256) (y / 256 ^ w % 256) (mod-lt y pos) digits) (low_bytes_less w x y l m)

pub bytes_less : (w x y : ℕ) (l m : List ℕ) → x < y → y < 256 ^ w → (bytes w x ++ l) ≼ (bytes w y ++ m)
bytes_less w x y l m h k = low_bytes_less w x y l m (rw (mod-eq_of_lt (lt_trans h k), mod-eq_of_lt k) h)
