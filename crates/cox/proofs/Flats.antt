-- A row of N numbers in an array, and a square of N × N: each entry stands at its place, and a store at a place changes that entry alone. By induction on the
-- blocks; entry r of column c is behind the c columns before it, of N entries each. Assumes nothing.
use mathlib.Core.List.{List, [], ◌∷◌, ◌++◌}
use mathlib.Core.Logic.{◌≢◌, ⊎_elim}
use mathlib.Core.Path.{◌≡◌, refl, sym, ap, ap₂, ◌∙◌}
use Prim.Native.Nat.{ℕ, zero, suc, ◌+◌, ◌*◌, ◌<◌, ◌≤◌}
use native.Mathlib.Nat.{not-suc-le-zero, le_refl, le_of_suc-le-suc, eq-or-lt_of_le, mul-le-mul_left}
use native.Mathlib.Omega.{arith}
use borrow.Author.Tests.{eq-eqb, ne_eqb}
use lib.Ieee.{Float}
use lib.ListN.{length, get_or, set, take, drop, get_or-append}
use lib.Seq.{get_or-append-add, set-append_left, set_at, take_all, drop-append_seam}
use Rattle.std.proofs.lemmas.List.{take-append-le}
use Rattle.filing.specs.Bytes.{blocks}
use Rattle.cd.proofs.Arrays.{set_append_add}
use Rattle.filing.proofs.Bytes.{blocks_same, blocks_split, length_blocks, length_singles, singles_at, one_more}
use Rattle.cox.specs.Squares.{Square, put, flat, flat_square}

-- ---- a row

module _ {A : Type 0} where
  pub length_flat : (N : ℕ) (f : ℕ → A) → length (flat N f) ≡ N
  unfolding flat
  length_flat N f = length_singles f N

  pub flat_same : (N : ℕ) (f g : ℕ → A) → ((i : ℕ) → i < N → f i ≡ g i) → flat N f ≡ flat N g
  unfolding flat
  flat_same N f g e = blocks_same _ _ N (λ i h. ap (λ x. x ∷ []) (e i h))

  pub flat_at : (N : ℕ) (f : ℕ → A) (d : A) (i : ℕ) → i < N → get_or (flat N f) i d ≡ f i
  unfolding flat
  flat_at N f d i h = singles_at f N d i h

  -- its front
  pub flat_front : (N : ℕ) (f : ℕ → A) (k : ℕ) → k ≤ N → take k (flat N f) ≡ flat k f
  unfolding flat
  flat_front zero f k h = let none : k ≡ 0 = omega arith in rw none
  flat_front (suc N) f k h =
      ⊎_elim
      (λ (e : k ≡ suc N). take_all k (flat (suc N) f) (omega (arith, length_flat (suc N) f)) ∙ ap (λ n. flat n f) (sym e))
      (λ (l : k < suc N). take-append-le k (flat N f) (f N ∷ []) (omega (arith, length_flat N f)) ∙ flat_front N f k (omega arith))
      (eq-or-lt_of_le h)

  -- the row with v in place i
  pub flat_set : (N : ℕ) (f g : ℕ → A) (i : ℕ) (v : A) → i < N → g i ≡ v → ((k : ℕ) → k < N → k ≢ i → g k ≡ f k) → set (flat N f) i v ≡ flat N g
  unfolding flat
  flat_set zero f g i v h e o = absurd (not-suc-le-zero h)
  flat_set (suc N) f g i v h e o =
      one_more (λ k. g k ≡ v → ((m : ℕ) → m < suc N → m ≢ k → g m ≡ f m) → set (blocks (λ j. f j ∷ []) N ++ (f N ∷ [])) k v ≡ blocks (λ j. g j ∷ []) N ++ (g N ∷ []))
      (λ k l e o. set-append_left (flat N f) (f N ∷ []) k v (rw (length_flat N f) l)
      ∙ ap₂ (λ x y. x ++ (y ∷ [])) (flat_set N f g k v l e (λ m q. o m (omega arith))) (sym (o N (le_refl (suc N)) (omega arith))))
      (λ e o. set_at (flat N f) (f N) [] v N (length_flat N f)
      ∙ ap₂ (λ x y. x ++ (y ∷ [])) (flat_same N f g (λ m q. sym (o m (omega arith) (omega arith)))) (sym e))
      i h e o

-- ---- a square: K of its columns, of N rows each

module _ (N : ℕ) where
  columns_of : Square → ℕ → List Float
  unfolding flat_square
  columns_of m K = blocks (λ c. flat N (m c)) K

  length_columns : (m : Square) (K : ℕ) → length (columns_of m K) ≡ N * K
  unfolding columns_of
  length_columns m K = length_blocks (λ c. flat N (m c)) N K (λ c h. length_flat N (m c))

  pub length_square : (m : Square) → length (flat_square N m) ≡ N * N
  unfolding flat_square columns_of
  length_square m = length_columns m N

  pub square_same : (m k : Square) → ((c r : ℕ) → c < N → r < N → m c r ≡ k c r) → flat_square N m ≡ flat_square N k
  unfolding flat_square
  square_same m k e = blocks_same _ _ N (λ c h. flat_same N (m c) (k c) (λ r l. e c r h l))

  pub square_at : (m : Square) (d : Float) (c r : ℕ) → c < N → r < N → get_or (flat_square N m) (N * c + r) d ≡ m c r
  unfolding flat_square columns_of
  square_at m d c r h l =
      let (rest, e) = blocks_split (λ k. flat N (m k)) N c h in
      let front = length_columns m c in
      let inside : r < length (flat N (m c)) = omega (arith, length_flat N (m c)) in
      rw (e, ← front) (get_or-append-add (columns_of m c) (flat N (m c) ++ rest) r d)
      ∙ get_or-append (flat N (m c)) rest d r inside ∙ flat_at N (m c) d r l

  -- the first k rows of a column
  pub column_front : (m : Square) (c k : ℕ) → c < N → k ≤ N → take k (drop (N * c) (flat_square N m)) ≡ flat k (m c)
  unfolding flat_square columns_of
  column_front m c k h l =
      let (rest, e) = blocks_split (λ i. flat N (m i)) N c h in
      let behind : drop (N * c) (columns_of m c ++ (flat N (m c) ++ rest)) ≡ flat N (m c) ++ rest =
      rw (← length_columns m c) (drop-append_seam (columns_of m c) (flat N (m c) ++ rest)) in
      ap (λ z. take k (drop (N * c) z)) e ∙ ap (take k) behind ∙ take-append-le k (flat N (m c)) rest (omega (arith, length_flat N (m c))) ∙ flat_front N (m c) k l

  put_here : (m : Square) (c r : ℕ) (v : Float) → put m c r v c r ≡ v
  unfolding put
  put_here m c r v = rw (eq-eqb c c refl, eq-eqb r r refl)

  put_other_column : (m : Square) (c r : ℕ) (v : Float) (i j : ℕ) → i ≢ c → put m c r v i j ≡ m i j
  unfolding put
  put_other_column m c r v i j n = rw (ne_eqb i c n)

  put_other_row : (m : Square) (c r : ℕ) (v : Float) (j : ℕ) → j ≢ r → put m c r v c j ≡ m c j
  unfolding put
  put_other_row m c r v j n = rw (eq-eqb c c refl, ne_eqb j r n)

  columns_put : (m : Square) (c r : ℕ) (v : Float) (K : ℕ) → c < K → r < N → set (columns_of m K) (N * c + r) v ≡ columns_of (put m c r v) K
  unfolding columns_of
  columns_put m c r v zero h l = absurd (not-suc-le-zero h)
  columns_put m c r v (suc K) h l =
      let kept : (k : ℕ) → k ≢ c → flat N (m k) ≡ flat N (put m c r v k) = λ k n. flat_same N _ _ (λ j q. sym (put_other_column m c r v k j n)) in
      ⊎_elim
      (λ (e : c ≡ K).
      let here : set (flat N (m c)) r v ≡ flat N (put m c r v c) = flat_set N (m c) (put m c r v c) r v l (put_here m c r v) (λ j q. put_other_row m c r v j) in
      let front : columns_of m K ≡ columns_of (put m c r v) K = blocks_same _ _ K (λ k q. kept k (omega arith)) in
      ap (λ z. set (columns_of m K ++ flat N (m K)) (z + r) v) (ap (λ z. N * z) e ∙ sym (length_columns m K))
      ∙ set_append_add (columns_of m K) (flat N (m K)) r v
      ∙ ap₂ ◌++◌ front (ap (λ k. set (flat N (m k)) r v) (sym e) ∙ here ∙ ap (λ k. flat N (put m c r v k)) e))
      (λ (q : c < K).
      let inside : N * c + r < length (columns_of m K) = omega (arith, length_columns m K, mul-le-mul_left N q) in
      set-append_left (columns_of m K) (flat N (m K)) (N * c + r) v inside ∙ ap₂ ◌++◌ (columns_put m c r v K q l) (kept K (omega arith)))
      (eq-or-lt_of_le (le_of_suc-le-suc h))

  pub square_put : (m : Square) (c r : ℕ) (v : Float) → c < N → r < N → set (flat_square N m) (N * c + r) v ≡ flat_square N (put m c r v)
  unfolding flat_square columns_of
  square_put m c r v h l = columns_put m c r v N h l
