-- A square filled row by row, and column by column: what stands below c + 1 stands at c or below it. By cases on the places. Assumes nothing.
use mathlib.Core.Bool.{Bool, true, false, ◌&&◌}
use mathlib.Core.List.{List}
use mathlib.Core.Logic.{◌⊎◌, inl, inr}
use mathlib.Core.Path.{◌≡◌, refl, sym, ap, ◌∙◌}
use Prim.Native.Nat.{ℕ, ◌+◌, ◌*◌, ◌<◌}
use native.Mathlib.Nat.{eq-or-lt_of_le}
use native.Mathlib.Omega.{arith}
use borrow.Author.Tests.{ltb-true, ltb-false, lt-ltb, le-ltb, eq-eqb, ne_eqb}
use lib.Dec.{ltb, eqb}
use lib.Ieee.{Float}
use lib.ListN.{set}
use Rattle.float.specs.Pick.{pick}
use Rattle.cox.specs.Squares.{Square, nil, zeros, put, flat_square}
use Rattle.cox.proofs.Flats.{square_put, square_same}

-- what stands below c, with v at c that fits it, stands below c + 1
pub pick_more : {A : Type 0} (k c : ℕ) (v a b : A) → (k ≡ c → v ≡ a) → pick (eqb k c) v (pick (ltb k c) a b) ≡ pick (ltb k (c + 1)) a b
pick_more k c v a b e = split (ltb c k) refl
  where
    up_to : (k ≡ c) ⊎ (k < c) → pick (eqb k c) v (pick (ltb k c) a b) ≡ pick (ltb k (c + 1)) a b
    up_to (inl p) = rw (eq-eqb k c p, lt-ltb k (c + 1) (omega arith)) (e p)
    up_to (inr q) = rw (ne_eqb k c (omega arith), lt-ltb k c q, lt-ltb k (c + 1) (omega arith))

    split : (t : Bool) → ltb c k ≡ t → pick (eqb k c) v (pick (ltb k c) a b) ≡ pick (ltb k (c + 1)) a b
    split true p = let h = ltb-true c k p in rw (ne_eqb k c (omega arith), le-ltb k c (omega arith), le-ltb k (c + 1) (omega arith))
    split false p = up_to (eq-or-lt_of_le (ltb-false c k p))

-- ---- the rows of a column

-- the square whose column c has f in its first k rows
unfoldable pub put_column : Square → ℕ → (ℕ → Float) → ℕ → Square
put_column m c f k i j = pick (eqb i c && ltb j k) (f j) (m i j)

pub column_none : (N : ℕ) (g : Square) (c : ℕ) (f : ℕ → Float) → flat_square N g ≡ flat_square N (put_column g c f 0)
unfolding put_column
column_none N g c f = square_same N _ _ (λ i j p q. none (eqb i c) i j)
  where
    none : (t : Bool) (i j : ℕ) → g i j ≡ pick (t && ltb j 0) (f j) (g i j)
    none true i j = rw (le-ltb j 0 (omega arith))
    none false i j = refl

pub column_more : (N : ℕ) (g : Square) (c r : ℕ) (f : ℕ → Float) → c < N → r < N
    → set (flat_square N (put_column g c f r)) (N * c + r) (f r) ≡ flat_square N (put_column g c f (r + 1))
unfolding put_column put
column_more N g c r f h l = square_put N (put_column g c f r) c r (f r) h l ∙ square_same N _ _ (λ i j p q. more (eqb i c) i j)
  where
    more : (t : Bool) (i j : ℕ) → pick (t && eqb j r) (f r) (pick (t && ltb j r) (f j) (g i j)) ≡ pick (t && ltb j (r + 1)) (f j) (g i j)
    more true i j = pick_more j r (f r) (f j) (g i j) (λ e. ap f (sym e))
    more false i j = refl

-- ---- the columns of a square

-- the square with the first k columns of m, and zeros in the rest
unfoldable pub first : ℕ → Square → Square
first k m c r = pick (ltb c k) (m c r) nil

pub first_none : (N : ℕ) (m : Square) → flat_square N zeros ≡ flat_square N (first 0 m)
unfolding first
first_none N m = square_same N _ _ (λ c r h l. sym (ap (λ t. pick t (m c r) nil) (le-ltb c 0 (omega arith))))

pub first_all : (N : ℕ) (m : Square) → flat_square N (first N m) ≡ flat_square N m
unfolding first
first_all N m = square_same N _ _ (λ c r h l. ap (λ t. pick t (m c r) nil) (lt-ltb c N h))

pub first_more : (N : ℕ) (m : Square) (c : ℕ) (f : ℕ → Float) (out : List Float) → ((r : ℕ) → f r ≡ m c r)
    → out ≡ flat_square N (put_column (first c m) c f N) → out ≡ flat_square N (first (c + 1) m)
unfolding put_column first
first_more N m c f out e o =
    o ∙ square_same N _ _ (λ i j p q. whole i j q ∙ pick_more i c (f j) (m i j) nil (λ s. e j ∙ ap (λ k. m k j) (sym s)))
  where
    and_true : (t : Bool) → t && true ≡ t
    and_true true = refl
    and_true false = refl

    whole : (i j : ℕ) → j < N → pick (eqb i c && ltb j N) (f j) (pick (ltb i c) (m i j) nil) ≡ pick (eqb i c) (f j) (pick (ltb i c) (m i j) nil)
    whole i j q = rw (lt-ltb j N q, and_true (eqb i c))
