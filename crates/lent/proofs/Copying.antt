-- Elements stored in runs, end to end. Assumes nothing.
use mathlib.Core.List.{List, [], ◌∷◌, ◌++◌, append_assoc, append-nil}
use mathlib.Core.Path.{◌≡◌, refl, sym, ap, ap₂, ◌∙◌}
use Prim.Native.Nat.{ℕ, zero, suc, ◌+◌, ◌-◌, ◌*◌, ◌≤◌, ◌<◌}
use native.Mathlib.Nat.{add-zero, zero-add, not-suc-le-zero, le_of_suc-le-suc}
use native.Mathlib.Numerals.{add-one}
use native.Mathlib.Omega.{arith}
use borrow.Rule.Slice.PartMut.{put_mid, mid_of}
use lib.ListN.{length, take, drop, get_or, set, length-append, length-drop, length-set, get_or-append, take-append-drop}
use lib.Seq.{sets, sets-eq, drop-drop, take-suc, take_all, length-take-le, length-sets, set-append_left, get_or-append-add}
use Rattle.lent.specs.Shown.{flat}

module _ {A : Type 0} where
  -- two runs, the second behind the first
  pub sets_append : (xs ys l : List A) (i : ℕ) → sets l i (xs ++ ys) ≡ sets (sets l i xs) (i + length xs) ys
  sets_append [] ys l i = ap (λ k. sets l k ys) (sym (add-zero i))
  sets_append (x ∷ xs) ys l i =
      let e : suc i + length xs ≡ i + suc (length xs) = omega arith in
      sets_append xs ys (set l i x) (suc i) ∙ ap (λ k. sets (sets (set l i x) (suc i) xs) k ys) e

  -- behind n
  pub sets_behind : (l xs ys : List A) (at n : ℕ) → length xs ≡ n → sets (sets l at xs) (at + n) ys ≡ sets l at (xs ++ ys)
  sets_behind l xs ys at n e = sym (sets_append xs ys l at ∙ ap (λ k. sets (sets l at xs) (at + k) ys) e)

  take_none : (l : List A) → take 0 l ≡ []
  take_none [] = refl
  take_none (x ∷ l) = refl

  -- ---- into a part of a slice: the k elements from a on

  sets_front : (ys l r : List A) (i : ℕ) → i + length ys ≤ length l → sets (l ++ r) i ys ≡ sets l i ys ++ r
  sets_front [] l r i h = refl
  sets_front (y ∷ ys) l r i h =
      let below : i < length l = omega arith in
      let rest : suc i + length ys ≤ length (set l i y) = omega (arith, length-set {A = A}) in
      ap (λ o. sets o (suc i) ys) (set-append_left l r i y below) ∙ sets_front ys (set l i y) r (suc i) rest

  over : (ys l : List A) (i : ℕ) → i + length ys ≤ length l → take i l ++ (ys ++ drop (i + length ys) l) ≡ sets l i ys
  over ys l i h = sym (sets-eq ys l i h ∙ append_assoc (take i l) ys (drop (i + length ys) l))

  -- all of the part
  pub sets_whole : (xs zs : List A) (a k : ℕ) → length zs ≡ k → a + k ≤ length xs → put_mid a k xs zs ≡ sets xs a zs
  sets_whole xs zs a k e h =
      ap (λ n. take a xs ++ (zs ++ n)) (drop-drop k a xs ∙ ap (λ n. drop (a + n) xs) (sym e)) ∙ over zs xs a (omega arith)

  -- the first elements
  pub sets_first : (xs zs : List A) (n : ℕ) → length zs ≡ n → n ≤ length xs → zs ++ drop n xs ≡ sets xs 0 zs
  sets_first xs zs n e h =
      ap (λ k. zs ++ drop k xs) (sym e ∙ sym (zero-add (length zs))) ∙ ap (λ l. l ++ (zs ++ drop (0 + length zs) xs)) (sym (take_none xs)) ∙ over zs xs 0 (omega arith)

  -- the front of the part
  pub sets_part : (xs ys : List A) (a k : ℕ) → length ys ≤ k → a + k ≤ length xs → put_mid a k xs (sets (mid_of a k xs) 0 ys) ≡ sets xs a ys
  sets_part xs ys a k e h =
      let rest : length (drop a xs) ≡ length xs - a = length-drop a xs in
      let mid : length (take k (drop a xs)) ≡ k = length-take-le k (drop a xs) (omega arith) in
      let behind : sets (drop a xs) 0 ys ≡ ys ++ drop (a + length ys) xs =
      sym (over ys (drop a xs) 0 (omega arith)) ∙ ap (λ l. l ++ (ys ++ drop (0 + length ys) (drop a xs))) (take_none (drop a xs)) ∙ ap (ys ++◌) (ap (λ n. drop n (drop a xs)) (zero-add (length ys)) ∙ drop-drop (length ys) a xs) in
      ap (take a xs ++◌) (sym (sets_front ys (take k (drop a xs)) (drop k (drop a xs)) 0 (omega arith)) ∙ ap (λ z. sets z 0 ys) (take-append-drop k (drop a xs)) ∙ behind)
      ∙ over ys xs a (omega arith)

  -- two runs, the second into the part behind the first
  pub sets_then : (xs ys l m n : List A) (a k : ℕ) → m ≡ sets l 0 xs → length xs ≡ a → n ≡ sets (mid_of a k m) 0 ys → length ys ≤ k → a + k ≤ length m → put_mid a k m n ≡ sets l 0 (xs ++ ys)
  sets_then xs ys l m n a k e long q r h =
      ap (put_mid a k m) q ∙ sets_part m ys a k r h ∙ ap₂ (λ z i. sets z i ys) e (sym (zero-add a)) ∙ sets_behind l xs ys 0 a long

-- ---- runs, one for each element of a list

module _ {A B : Type 0} (f : A → List B) where
  pub flat_append : (xs ys : List A) → flat f (xs ++ ys) ≡ flat f xs ++ flat f ys
  unfolding flat
  flat_append [] ys = refl
  flat_append (x ∷ xs) ys = rw (flat_append xs ys, append_assoc)

  flat_suc : (xs : List A) (i : ℕ) (d : A) → i < length xs → flat f (take (i + 1) xs) ≡ flat f (take i xs) ++ f (get_or xs i d)
  unfolding flat
  flat_suc xs i d h = rw (add-one, take-suc xs i d h, flat_append, append-nil)

  -- element i of run k
  pub flat_at : (w : ℕ) → ((x : A) → length (f x) ≡ w) → (xs : List A) (k i : ℕ) (d : A) (e : B) → k < length xs → i < w → get_or (flat f xs) (w * k + i) e ≡ get_or (f (get_or xs k d)) i e
  unfolding flat
  flat_at w h [] k i d e l m = absurd (not-suc-le-zero l)
  flat_at w h (x ∷ xs) zero i d e l m =
      let z : w * zero + i ≡ i = omega arith in
      rw z (get_or-append (f x) (flat f xs) e i (omega (arith, h x)))
  flat_at w h (x ∷ xs) (suc k) i d e l m =
      let z : w * suc k + i ≡ length (f x) + (w * k + i) = omega (arith, h x) in
      rw z (get_or-append-add (f x) (flat f xs) (w * k + i) e ∙ flat_at w h xs k i d e (le_of_suc-le-suc l) m)

  pub flat_length : (w : ℕ) → ((x : A) → length (f x) ≡ w) → (xs : List A) → length (flat f xs) ≡ w * length xs
  unfolding flat
  flat_length w h [] = omega arith
  flat_length w h (x ∷ xs) = length-append (f x) (flat f xs) ∙ omega (arith, h x, flat_length w h xs)

  -- the runs of the first i elements are stored, from the front to `at`
  pub record Stored (xs : List A) (i at : ℕ) (before after : List B) : Type 0 where
    pub long : length (flat f (take i xs)) ≡ at
    pub stored : after ≡ sets before 0 (flat f (take i xs))

  pub stored_none : (xs : List A) (l : List B) → Stored xs 0 0 l l
  unfolding flat
  stored_none xs l = record { long = refl; stored = refl }

  pub stored_length : (xs : List A) (i at : ℕ) (l m : List B) → Stored xs i at l m → length m ≡ length l
  stored_length xs i at l m s = ap length s.stored ∙ length-sets l 0 (flat f (take i xs))

  -- one run more, of the element x
  module _ (xs : List A) (i at : ℕ) (x : A) (l m : List B) (h : i < length xs) (is : x ≡ get_or xs i x) (s : Stored xs i at l m) where
    more : flat f (take (i + 1) xs) ≡ flat f (take i xs) ++ f x
    more = flat_suc xs i x h ∙ ap (λ y. flat f (take i xs) ++ f y) (sym is)

    longer : length (flat f (take (i + 1) xs)) ≡ at + length (f x)
    longer = ap length more ∙ length-append (flat f (take i xs)) (f x) ∙ ap (λ k. k + length (f x)) s.long

    module _ (r : length (flat f xs) ≤ length l) where
      -- there is room for it
      pub stored_room : at + length (f x) ≤ length m
      stored_room =
          let whole = ap length (ap (flat f) (sym (take-append-drop (i + 1) xs)) ∙ flat_append (take (i + 1) xs) (drop (i + 1) xs)) ∙ length-append (flat f (take (i + 1) xs)) (flat f (drop (i + 1) xs)) in
          omega (arith, r, whole, longer, stored_length xs i at l m s)

      pub stored_more : (w : ℕ) (n : List B) → w ≡ length (f x) → n ≡ sets (mid_of at (at + w - at) m) 0 (f x)
          → (at + w ≤ length (put_mid at (at + w - at) m n)) × Stored xs (i + 1) (at + w) l (put_mid at (at + w - at) m n)
      stored_more w n e q =
          let there : put_mid at (at + w - at) m n ≡ sets m at (f x) =
          ap (put_mid at (at + w - at) m) q ∙ sets_part m (f x) at (at + w - at) (omega arith) (omega (arith, stored_room)) in
          let run : Stored xs (i + 1) (at + w) l (sets m at (f x)) = record {
            long = longer ∙ ap (λ k. at + k) (sym e);
            stored = ap (λ o. sets o at (f x)) s.stored
                ∙ ap (λ k. sets (sets l 0 (flat f (take i xs))) k (f x)) (sym (zero-add at))
                ∙ sets_behind l (flat f (take i xs)) (f x) 0 at s.long
                ∙ ap (sets l 0) (sym more);
          } in
          rw there (omega (arith, stored_room, length-sets m at (f x)), run)

  pub stored_all : (xs : List A) (i at : ℕ) (l m : List B) → Stored xs i at l m → length xs ≤ i → m ≡ sets l 0 (flat f xs)
  stored_all xs i at l m s h = s.stored ∙ ap (λ ys. sets l 0 (flat f ys)) (take_all i xs h)
