-- Big-endian numbers, blocks end to end, a part filled up with zeros, and a buffer written into. The number that bytes spell tells them, and where the
-- parts of two lists have the same lengths, equal lists have equal parts. Assumes nothing.
use mathlib.Core.List.{List, [], ◌∷◌, ◌++◌, append_assoc, append-nil, head-eq_of_cons-eq, tail-eq_of_cons-eq}
use mathlib.Core.Logic.{◌⊎◌, inl, inr}
use mathlib.Core.Path.{◌≡◌, refl, sym, ap, ap₂, ◌∙◌}
use Prim.Native.Nat.{ℕ, zero, suc, ◌+◌, ◌*◌, ◌%◌, ◌^◌, ◌≤◌, ◌<◌}
use native.Mathlib.Nat.{mod-one, mod-eq_of_lt, pow-succ', one-le-pow, zero-lt-suc, suc_inj, suc-ne-zero, not-suc-le-zero, le_of_suc-le-suc, eq-or-lt_of_le, le_refl}
use native.Mathlib.Nat.{one-mul, zero-add, add-zero, suc-add, add_assoc, add_comm, mul_assoc, mul-add-div_right, mul-add-mod_self_right, div-div-eq-div-mul}
use native.Mathlib.Numerals.{add-one}
use native.Mathlib.Omega.{arith}
use lib.Arith.{mod-mul, digits_div}
use lib.ListN.{length, get_or, take, drop, set, length-append, length-replicate, length-drop, take-append-drop}
use lib.Pow.{pow-add}
use lib.Seq.{get_or_at, length-take-le, take_at, drop_at, drop-drop, set_split}
use Rattle.filing.specs.Bytes.{bytes, value, blocks, filled, written}

-- ---- a number in k bytes

pub length_bytes : (k x : ℕ) → length (bytes k x) ≡ k
unfolding bytes
length_bytes zero x = refl
length_bytes (suc k) x = ap suc (length_bytes k x)

power_pos : (k : ℕ) → zero < 256 ^ k
power_pos k = one-le-pow k 256 (zero-lt-suc 255)

value_mod : (k x : ℕ) → value (bytes k x) ≡ x % 256 ^ k
unfolding bytes value
value_mod zero x = sym (mod-one x)
value_mod (suc k) x = rw (length_bytes k x, value_mod k x, pow-succ' 256 k) (sym (mod-mul x (zero-lt-suc 255) (power_pos k)))

pub value_bytes : (k x : ℕ) → x < 256 ^ k → value (bytes k x) ≡ x
value_bytes k x h = value_mod k x ∙ mod-eq_of_lt h

pub bytes_injective : (k x y : ℕ) → x < 256 ^ k → y < 256 ^ k → bytes k x ≡ bytes k y → x ≡ y
bytes_injective k x y hx hy e = sym (value_bytes k x hx) ∙ ap value e ∙ value_bytes k y hy

-- what stands above the k bytes does not show
bytes_low : (k x y : ℕ) → bytes k (x * 256 ^ k + y) ≡ bytes k y
unfolding bytes
bytes_low zero x y = refl
bytes_low (suc k) x y = rw (pow-succ' 256 k, ← (mul_assoc x 256 (256 ^ k)), mul-add-div_right (power_pos k), mul-add-mod_self_right, bytes_low k (x * 256) y)

pub bytes_split : (w v x y : ℕ) → y < 256 ^ v → bytes (w + v) (x * 256 ^ v + y) ≡ bytes w x ++ bytes v y
unfolding bytes
bytes_split zero v x y h = rw (zero-add v) (bytes_low v x y)
bytes_split (suc w) v x y h =
    rw (suc-add w v, add_comm w v, pow-add 256 v w, ← div-div-eq-div-mul, digits_div x h, add_comm v w, bytes_split w v x y h)

-- ---- the seam of two parts of known length

pub append_injective {ℓ} : {A : Type ℓ} (a b : List A) {x y : List A} → length a ≡ length b → a ++ x ≡ b ++ y → (a ≡ b) × (x ≡ y)
append_injective [] [] h e = (refl, e)
append_injective [] (b ∷ bs) h e = absurd (suc-ne-zero (length bs) (sym h))
append_injective (a ∷ ts) [] h e = absurd (suc-ne-zero (length ts) h)
append_injective (a ∷ ts) (b ∷ bs) h e =
    let r = append_injective ts bs (suc_inj h) (tail-eq_of_cons-eq e) in (ap₂ ◌∷◌ (head-eq_of_cons-eq e) r.0, r.1)

pub parts_same {ℓ} : {A : Type ℓ} (n : ℕ) (a b : List A) → take n a ≡ take n b → drop n a ≡ drop n b → a ≡ b
parts_same n a b front rest = sym (take-append-drop n a) ∙ ap₂ ◌++◌ front rest ∙ take-append-drop n b

-- ---- blocks

-- what holds below n, and of n, holds below n + 1
pub one_more {ℓ} : (P : ℕ → Type ℓ) {n : ℕ} → ((i : ℕ) → i < n → P i) → P n → (i : ℕ) → i < suc n → P i
one_more P {n} below here i h = go (eq-or-lt_of_le (le_of_suc-le-suc h))
  where
    go : (i ≡ n) ⊎ (i < n) → P i
    go (inl p) = rw p here
    go (inr q) = below i q

module _ {ℓ} {A : Type ℓ} (g h : ℕ → List A) where
  pub blocks_same : (n : ℕ) → ((i : ℕ) → i < n → g i ≡ h i) → blocks g n ≡ blocks h n
  unfolding blocks
  blocks_same zero e = refl
  blocks_same (suc n) e = ap₂ ◌++◌ (blocks_same n (λ i l. e i (omega arith))) (e n (le_refl (suc n)))

  pub blocks_injective : (n : ℕ) → ((i : ℕ) → i < n → length (g i) ≡ length (h i)) → blocks g n ≡ blocks h n → (i : ℕ) → i < n → g i ≡ h i
  unfolding blocks
  blocks_injective zero l e i k = absurd (not-suc-le-zero k)
  blocks_injective (suc n) l e i k =
      let front : length (blocks g n) ≡ length (blocks h n) = omega (arith, simp length-append at (ap length e), l n (le_refl (suc n))) in
      let parts = append_injective (blocks g n) (blocks h n) front e in
      one_more (λ j. g j ≡ h j) (blocks_injective n (λ j m. l j (omega arith)) parts.0) parts.1 i k

pub length_blocks {ℓ} : {A : Type ℓ} (g : ℕ → List A) (w n : ℕ) → ((i : ℕ) → i < n → length (g i) ≡ w) → length (blocks g n) ≡ w * n
unfolding blocks
length_blocks g w zero l = omega arith
length_blocks g w (suc n) l =
    simp length-append (omega (arith, length_blocks g w n (λ i h. l i (omega arith)), l n (le_refl (suc n))))

-- block i behind those before it
pub blocks_split {ℓ} : {A : Type ℓ} (g : ℕ → List A) (n i : ℕ) → i < n → (rest : List A) × (blocks g n ≡ blocks g i ++ (g i ++ rest))
unfolding blocks
blocks_split g zero i h = absurd (not-suc-le-zero h)
blocks_split {A = A} g (suc n) i h =
    one_more (λ k. (rest : List A) × (blocks g n ++ g n ≡ blocks g k ++ (g k ++ rest)))
    (λ k l. let (rest, e) = blocks_split g n k l in (rest ++ g n, rw e (simp append_assoc))) ([], rw append-nil) i h

-- blocks of one element each: a list by a function of the place
module _ {A : Type 0} (f : ℕ → A) where
  pub length_singles : (n : ℕ) → length (blocks (λ i. f i ∷ []) n) ≡ n
  length_singles n = length_blocks _ 1 n (λ i h. refl) ∙ one-mul n

  pub singles_at : (n : ℕ) (d : A) (i : ℕ) → i < n → get_or (blocks (λ i. f i ∷ []) n) i d ≡ f i
  singles_at n d i h = let (rest, e) = blocks_split (λ k. f k ∷ []) n i h in rw e (get_or_at (blocks (λ k. f k ∷ []) i) (f i) rest d i (length_singles i))

-- ---- a part filled up

pub length_filled : (w : ℕ) (l : List ℕ) → length l ≤ w → length (filled w l) ≡ w
unfolding filled
length_filled w l h = simp (length-append, length-replicate) (omega arith)

pub filled_injective : (w : ℕ) (a b : List ℕ) → length a ≡ length b → filled w a ≡ filled w b → a ≡ b
unfolding filled
filled_injective w a b h e = (append_injective a b h e).0

-- ---- a buffer written into

pub length_written : (k : ℕ) (x l : List ℕ) → k + length x ≤ length l → length (written k x l) ≡ length l
unfolding written
length_written k x l h = simp (length-append, length-drop) (omega (arith, length-take-le k l (omega arith)))

pub written_nil : (k : ℕ) (l : List ℕ) → written k [] l ≡ l
unfolding written
written_nil k l = rw (add-zero k) (take-append-drop k l)

pub written_front : (x l : List ℕ) → written zero x l ≡ x ++ drop (length x) l
unfolding written
written_front x l = rw (zero-add (length x))

pub written_byte : (k b : ℕ) (l : List ℕ) → k < length l → set l k b ≡ written k (b ∷ []) l
unfolding written
written_byte k b l h = rw (add-one k) (set_split l k b h)

pub written_then : (k : ℕ) (x y l : List ℕ) → k + length x ≤ length l → written (k + length x) y (written k x l) ≡ written k (x ++ y) l
unfolding written
written_then k x y l h =
    let front : length (take k l ++ x) ≡ k + length x = length-append (take k l) x ∙ ap (λ n. n + length x) (length-take-le k l (omega arith)) in
    let rest : List ℕ = drop (k + length x) l in
    rw (
      ← (append_assoc (take k l) x rest),
      take_at (take k l ++ x) rest (k + length x) front,
      ← (drop-drop (length y) (k + length x) ((take k l ++ x) ++ rest)),
      drop_at (take k l ++ x) rest (k + length x) front,
      drop-drop,
    )
    (simp (append_assoc, length-append, add_assoc))

pub written_block : (k : ℕ) (g : ℕ → List ℕ) (i : ℕ) (l : List ℕ) → k + length (blocks g i) ≤ length l
    → written (k + length (blocks g i)) (g i) (written k (blocks g i) l) ≡ written k (blocks g (i + 1)) l
unfolding blocks
written_block k g i l h = rw (add-one i) (written_then k (blocks g i) (g i) l h)
