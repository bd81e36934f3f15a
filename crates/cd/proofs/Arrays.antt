-- Lists laid out in arrays. `padded` goes by recursion on its list. The rows of a triangle before row n hold n × (n + 1) / 2 places, so the place
-- b × (b + 1) / 2 + a with a ≤ b is place a of row b, which a load or a store reaches past the rows before it. A loop that fills an array, or replaces each of
-- its elements, has done so to the first k. Assumes nothing.
use Prim.Native.Nat.{ℕ, zero, suc, ◌+◌, ◌-◌, ◌*◌, ◌/◌, ◌≤◌, ◌<◌}
use mathlib.Core.List.{List, [], ◌∷◌, ◌++◌, map, map-append}
use mathlib.Core.Logic.{◌⊎◌, inl, inr, ⊎_elim}
use mathlib.Core.Path.{◌≡◌, refl, sym, ap, ap₂, ◌∙◌}
use native.Mathlib.Decide.{dec_lt}
use native.Mathlib.Nat.{zero-add, sub-zero, suc-add, le_of_suc-le-suc, not-suc-le-zero, eq-or-lt_of_le}
use native.Mathlib.Numerals.{add-one}
use native.Mathlib.Omega.{arith}
use borrow.Author.Tests.{lt-ltb, le-ltb}
use lib.ListN.{length, get_or, take, drop, set, replicate, length-append, length-map, get_or-append, get_or-map, replicate-append-replicate}
use lib.Seq.{take_all, take-suc, take-suc-set, get_or-append-add, set-append_left, get_or_at, set_at}
use Rattle.cd.specs.Arrays.{padded, row, triangle}
use Rattle.cd.specs.Diagrams.{place_of}

-- the length of an array of structs, which is known by its elements' images
pub length_of_image : (X Y : Type 0) (f : X → Y) (xs : List X) (n : ℕ) → length (map f xs) ≡ n → length xs ≡ n
length_of_image X Y f xs n e = sym (length-map xs f) ∙ e

-- ---- an array that is filled from the front with f of each element of a list

module _ {A B : Type 0} (f : A → B) (xs : List A) (ys : List B) (k : ℕ) (so_far : take k ys ≡ take k (map f xs)) where
  pub filled_next : (d : A) → k < length xs → k < length ys → take (k + 1) (set ys k (f (get_or xs k d))) ≡ take (k + 1) (map f xs)
  filled_next d p q =
      rw (add-one, take-suc-set ys k _ q, take-suc (map f xs) k (f d) (omega (arith, length-map xs f)), get_or-map f xs k d, so_far)

  pub filled_all : length xs ≤ k → length ys ≤ k → ys ≡ map f xs
  filled_all p q = sym (take_all k ys q) ∙ so_far ∙ take_all k (map f xs) (omega (arith, length-map xs f))

-- ---- an array whose elements are replaced from the front, each by f of it

module _ {A : Type 0} (f : A → A) where
  abbrev pub replaced : ℕ → List A → List A
  replaced k xs = map f (take k xs) ++ drop k xs

  replaced_suc : (d : A) (k : ℕ) (xs : List A) → k < length xs → set (replaced k xs) k (f (get_or (replaced k xs) k d)) ≡ replaced (suc k) xs
  replaced_suc d k [] h = absurd (not-suc-le-zero h)
  replaced_suc d zero (x ∷ xs) h = refl
  replaced_suc d (suc k) (x ∷ xs) h = rw (replaced_suc d k xs (le_of_suc-le-suc h))

  pub replaced_next : (d : A) (k : ℕ) (xs : List A) → k < length xs → set (replaced k xs) k (f (get_or (replaced k xs) k d)) ≡ replaced (k + 1) xs
  replaced_next d k xs h = replaced_suc d k xs h ∙ rw (← add-one k)

  pub get_or_replaced : (d : A) (k : ℕ) (xs : List A) (i : ℕ) → i < k → i < length xs → get_or (replaced k xs) i d ≡ f (get_or xs i d)
  get_or_replaced d k [] i h l = absurd (not-suc-le-zero l)
  get_or_replaced d zero (x ∷ xs) i h l = absurd (not-suc-le-zero h)
  get_or_replaced d (suc k) (x ∷ xs) zero h l = refl
  get_or_replaced d (suc k) (x ∷ xs) (suc i) h l = get_or_replaced d k xs i (le_of_suc-le-suc h) (le_of_suc-le-suc l)

-- ---- padded

module _ {A : Type 0} (d : A) where
  pub length_padded : (n : ℕ) (xs : List A) → length (padded d n xs) ≡ n
  unfolding padded
  length_padded zero xs = refl
  length_padded (suc n) [] = ap suc (length_padded n [])
  length_padded (suc n) (x ∷ xs) = ap suc (length_padded n xs)

  pub padded_blank : (n : ℕ) → padded d n [] ≡ replicate n d
  unfolding padded
  padded_blank zero = refl
  padded_blank (suc n) = rw (padded_blank n)

  pub padded_rest : (n : ℕ) (xs : List A) → length xs ≤ n → padded d n xs ≡ xs ++ replicate (n - length xs) d
  unfolding padded
  padded_rest n [] h = padded_blank n ∙ ap (λ k. replicate k d) (sym (sub-zero n))
  padded_rest zero (x ∷ xs) h = absurd (not-suc-le-zero h)
  padded_rest (suc n) (x ∷ xs) h =
      let e : n - length xs ≡ suc n - suc (length xs) = omega arith in
      rw (padded_rest n xs (le_of_suc-le-suc h)) (ap (λ k. x ∷ (xs ++ replicate k d)) e)

  pub set_padded : (v : A) (n : ℕ) (xs : List A) → length xs < n → set (padded d n xs) (length xs) v ≡ padded d n (xs ++ (v ∷ []))
  unfolding padded
  set_padded v zero xs h = absurd (not-suc-le-zero h)
  set_padded v (suc n) [] h = refl
  set_padded v (suc n) (x ∷ xs) h = rw (set_padded v n xs (le_of_suc-le-suc h))

  pub get_or_padded : (e : A) (n : ℕ) (xs : List A) (i : ℕ) → i < n → get_or (padded d n xs) i e ≡ get_or xs i d
  unfolding padded
  get_or_padded e zero xs i h = absurd (not-suc-le-zero h)
  get_or_padded e (suc n) [] zero h = refl
  get_or_padded e (suc n) [] (suc i) h = get_or_padded e n [] i (le_of_suc-le-suc h)
  get_or_padded e (suc n) (x ∷ xs) zero h = refl
  get_or_padded e (suc n) (x ∷ xs) (suc i) h = get_or_padded e n xs i (le_of_suc-le-suc h)

-- ---- places

last_or_before : {a n : ℕ} → a < suc n → (a ≡ n) ⊎ (a < n)
last_or_before h = eq-or-lt_of_le (le_of_suc-le-suc h)

-- how many pairs i ≤ j < n there are: where row n begins
abbrev start : ℕ → ℕ
start n = n * (n + 1) / 2

next_start : (n : ℕ) → start (suc n) ≡ start n + suc n
next_start n = omega arith

-- a place of row b is before every later row
before_start : (n a b : ℕ) → a ≤ b → b < n → start b + a < start n
before_start zero a b l h = absurd (not-suc-le-zero h)
before_start (suc n) a b l h =
    ⊎_elim
    (λ (e : b ≡ n). omega (arith, next_start n, ap start e))
    (λ (m : b < n). omega (arith, next_start n, before_start n a b l m))
    (last_or_before h)

-- the place of a pair in order, and not in order
pub place_rising : (a b : ℕ) → a < b → place_of a b ≡ b * (b + 1) / 2 + a
unfolding place_of
place_rising a b h = rw (lt-ltb a b h)

pub place_falling : (a b : ℕ) → b ≤ a → place_of a b ≡ a * (a + 1) / 2 + b
unfolding place_of
place_falling a b h = rw (le-ltb a b h)

pub place_below : (n a b : ℕ) → a < b → b < n → place_of a b < n * (n + 1) / 2
place_below n a b l h = rw (place_rising a b l) (before_start n a b (omega arith) h)

pub place_symmetric : (a b : ℕ) → place_of a b ≡ place_of b a
place_symmetric a b =
    elim (dec_lt a b) [
      | yes l ↦ place_rising a b l ∙ sym (place_falling b a (omega arith))
      | no l ↦
          elim (dec_lt b a) [
            | yes m ↦ place_falling a b (omega arith) ∙ sym (place_rising b a m)
            | no m ↦ let same : a ≡ b = omega arith in rw same
          ]
    ]

-- ---- triangle: its length, and one that holds one value everywhere

module _ {A : Type 0} (f : ℕ → ℕ → A) where
  length_row : (j k : ℕ) → length (row f j k) ≡ k
  unfolding row
  length_row j zero = refl
  length_row j (suc k) = omega (arith, length-append (row f j k) (f k j ∷ []), length_row j k)

  pub length_triangle : (n : ℕ) → length (triangle f n) ≡ n * (n + 1) / 2
  unfolding triangle
  length_triangle zero = refl
  length_triangle (suc n) = omega (arith, length-append (triangle f n) (row f n (suc n)), length_row n (suc n), length_triangle n, next_start n)

module _ {A : Type 0} (d : A) where
  row_blank : (j k : ℕ) → row (λ i j. d) j k ≡ replicate k d
  unfolding row
  row_blank j zero = refl
  row_blank j (suc k) = rw (row_blank j k) (replicate-append-replicate k 1 d ∙ rw add-one)

  -- so `triangle_blank d 9` says replicate 45 d
  pub triangle_blank : (n : ℕ) → triangle (λ i j. d) n ≡ replicate (n * (n + 1) / 2) d
  unfolding triangle
  triangle_blank zero = refl
  triangle_blank (suc n) = rw (triangle_blank n, row_blank n (suc n)) (replicate-append-replicate (start n) (suc n) d ∙ rw (next_start n))

-- ---- a load

module _ {A : Type 0} (f : ℕ → ℕ → A) (d : A) where
  get_or_row : (j k i : ℕ) → i < k → get_or (row f j k) i d ≡ f i j
  unfolding row
  get_or_row j zero i h = absurd (not-suc-le-zero h)
  get_or_row j (suc k) i h =
      ⊎_elim
      (λ (e : i ≡ k). rw e (get_or_at (row f j k) (f k j) [] d k (length_row f j k)))
      (λ (l : i < k). get_or-append (row f j k) (f k j ∷ []) d i (omega (arith, length_row f j k)) ∙ get_or_row j k i l)
      (last_or_before h)

  pub get_or_rising : (n i j : ℕ) → i ≤ j → j < n → get_or (triangle f n) (j * (j + 1) / 2 + i) d ≡ f i j
  unfolding triangle
  get_or_rising zero i j l h = absurd (not-suc-le-zero h)
  get_or_rising (suc n) i j l h =
      ⊎_elim
      (λ (e : j ≡ n). rw (e, ← length_triangle f n) (get_or-append-add (triangle f n) (row f n (suc n)) i d ∙ get_or_row n (suc n) i (omega arith)))
      (λ (m : j < n). get_or-append (triangle f n) (row f n (suc n)) d (start j + i) (omega (arith, length_triangle f n, before_start n i j l m)) ∙ get_or_rising n i j l m)
      (last_or_before h)

  pub get_or_triangle : (n i j : ℕ) → ((x y : ℕ) → f x y ≡ f y x) → i < n → j < n → get_or (triangle f n) (place_of i j) d ≡ f i j
  get_or_triangle n i j sy p q =
      elim (dec_lt i j) [
        | yes l ↦ rw (place_rising i j l) (get_or_rising n i j (omega arith) q)
        | no l ↦ rw (place_falling i j (omega arith)) (get_or_rising n j i (omega arith) p ∙ sy j i)
      ]

-- ---- a store

pub set_append_add : {A : Type 0} (xs ys : List A) (n : ℕ) (v : A) → set (xs ++ ys) (length xs + n) v ≡ xs ++ set ys n v
set_append_add [] ys n v = rw zero-add
set_append_add (x ∷ xs) ys n v = rw (suc-add, set_append_add xs ys n v)

-- the pairs {a, b} and {i, j} are one
abbrev pub Same : ℕ → ℕ → ℕ → ℕ → Type 0
Same a b i j = ((a ≡ i) × (b ≡ j)) ⊎ ((a ≡ j) × (b ≡ i))

module _ {A : Type 0} (f g : ℕ → ℕ → A) where
  row_kept : (j k : ℕ) → ((i : ℕ) → i < k → g i j ≡ f i j) → row f j k ≡ row g j k
  unfolding row
  row_kept j zero h = refl
  row_kept j (suc k) h = rw (row_kept j k (λ i l. h i (omega arith)), h k (omega arith))

  pub triangle_kept : (n : ℕ) → ((i j : ℕ) → i ≤ j → j < n → g i j ≡ f i j) → triangle f n ≡ triangle g n
  unfolding triangle
  triangle_kept zero h = refl
  triangle_kept (suc n) h = rw (triangle_kept n (λ i j l m. h i j l (omega arith)), row_kept n (suc n) (λ i l. h i n (omega arith) (omega arith)))

  module _ (v : A) where
    set_row : (j k a : ℕ) → a < k → g a j ≡ v → ((i : ℕ) → i < k → (i ≡ a → ⊥) → g i j ≡ f i j) → set (row f j k) a v ≡ row g j k
    unfolding row
    set_row j zero a h e o = absurd (not-suc-le-zero h)
    set_row j (suc k) a h e o =
        ⊎_elim
        (λ (q : a ≡ k). rw q (set_at (row f j k) (f k j) [] v k (length_row f j k) ∙ rw (row_kept j k (λ i l. o i (omega arith) (omega arith)), ← e, q)))
        (λ (l : a < k). set-append_left (row f j k) (f k j ∷ []) a v (omega (arith, length_row f j k)) ∙ rw (set_row j k a l e (λ i m. o i (omega arith)), o k (omega arith) (omega arith)))
        (last_or_before h)

    pub set_rising : (n a b : ℕ) → a ≤ b → b < n → g a b ≡ v → ((i j : ℕ) → i ≤ j → (i ≡ a → j ≡ b → ⊥) → g i j ≡ f i j) → set (triangle f n) (b * (b + 1) / 2 + a) v ≡ triangle g n
    unfolding triangle
    set_rising zero a b l h e o = absurd (not-suc-le-zero h)
    set_rising (suc n) a b l h e o =
        ⊎_elim
        (λ (q : b ≡ n).
        let front : triangle f n ≡ triangle g n = triangle_kept n (λ i j m k. o i j m (omega arith)) in
        let back : set (row f n (suc n)) a v ≡ row g n (suc n) = set_row n (suc n) a (omega arith) (ap (g a) (sym q) ∙ e) (λ i m k. o i n (omega arith) (λ p r. k p)) in
        rw (q, ← length_triangle f n) (set_append_add (triangle f n) (row f n (suc n)) a v ∙ rw (front, back)))
        (λ (m : b < n).
        let inside : start b + a < length (triangle f n) = omega (arith, length_triangle f n, before_start n a b l m) in
        let back : row f n (suc n) ≡ row g n (suc n) = row_kept n (suc n) (λ i k. o i n (omega arith) (λ p r. omega arith)) in
        set-append_left (triangle f n) (row f n (suc n)) (start b + a) v inside ∙ rw (set_rising n a b l m e o, back))
        (last_or_before h)

    pub set_triangle : (n a b : ℕ) → a < n → b < n → ((i j : ℕ) → i ≤ j → Same a b i j → g i j ≡ v) → ((i j : ℕ) → i ≤ j → (Same a b i j → ⊥) → g i j ≡ f i j) → set (triangle f n) (place_of a b) v ≡ triangle g n
    set_triangle n a b p q e o =
        elim (dec_lt a b) [
          | yes l ↦
              let other : (i j : ℕ) → i ≤ j → (i ≡ a → j ≡ b → ⊥) → Same a b i j → ⊥ = λ i j m k. ⊎_elim (λ s. k (sym s.0) (sym s.1)) (λ s. omega arith) in
              rw (place_rising a b l) (set_rising n a b (omega arith) q (e a b (omega arith) (inl (refl, refl))) (λ i j m k. o i j m (other i j m k)))
          | no l ↦
              let other : (i j : ℕ) → i ≤ j → (i ≡ b → j ≡ a → ⊥) → Same a b i j → ⊥ = λ i j m k. ⊎_elim (λ s. k (omega arith) (omega arith)) (λ s. k (sym s.1) (sym s.0)) in
              rw (place_falling a b (omega arith)) (set_rising n b a (omega arith) p (e b a (omega arith) (inr (refl, refl))) (λ i j m k. o i j m (other i j m k)))
        ]

-- ---- a triangle that a function was applied to

map_row : {A B : Type 0} (g : A → B) (f : ℕ → ℕ → A) (j k : ℕ) → map g (row f j k) ≡ row (λ x y. g (f x y)) j k
unfolding row
map_row g f j zero = refl
map_row g f j (suc k) = map-append g (row f j k) (f k j ∷ []) ∙ ap (λ l. l ++ (g (f k j) ∷ [])) (map_row g f j k)

pub map_triangle : {A B : Type 0} (g : A → B) (f : ℕ → ℕ → A) (n : ℕ) → map g (triangle f n) ≡ triangle (λ x y. g (f x y)) n
unfolding triangle
map_triangle g f zero = refl
map_triangle g f (suc n) = map-append g (triangle f n) (row f n (suc n)) ∙ ap₂ ◌++◌ (map_triangle g f n) (map_row g f n (suc n))
