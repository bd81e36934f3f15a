-- A row of a column as the code computes it, one row more, one column more: each is a step of the definition, read from arrays. Assumes nothing.
use mathlib.Core.Bool.{Bool, true, false}
use mathlib.Core.List.{List}
use mathlib.Core.Path.{◌≡◌, refl, sym, ap, ◌∙◌}
use Prim.Native.Nat.{ℕ, suc, ◌+◌, ◌-◌, ◌*◌, ◌<◌, ◌≤◌}
use native.Mathlib.Nat.{sub-zero}
use native.Mathlib.Numerals.{add-one}
use native.Mathlib.Omega.{arith}
use Rattle.std.specs.Prelude.{Ok, Err}
use lib.Ieee.{Float, binary64, of_bits, le, neg}
use lib.ListN.{set}
use Rattle.cd.specs.Diagrams.{limit}
use Rattle.cd.specs.declared.CdError.TheVariants.{Crowded}
use Rattle.float.specs.Constants.{π, tolerance}
use Rattle.float.specs.Cosine.{cos_of}
use Rattle.float.specs.Numbers.{◌-ᶠ◌, ◌/ᶠ◌}
use Rattle.float.specs.Pick.{pick}
use Rattle.float.specs.Root.{root_of}
use Rattle.cox.specs.Squares.{Square, one, zeros, put, dot, flat_square}
use Rattle.cox.proofs.Flats.{square_put}
use Rattle.cox.proofs.Sums.{one_literal}
use Rattle.normals.specs.Mirrors.{cosine, row, rows, Mirrors, Columns, Refused, columns, mirrors}
use Rattle.normals.specs.Shown.{mirrors_of}

-- 1.0, PI and EPS, as the code has them
abbrev pub unit : Float
unit = of_bits binary64 0x3ff0_0000_0000_0000

abbrev pub pi : Float
pi = of_bits binary64 0x4009_21fb_5444_2d18

abbrev pub eps : Float
eps = of_bits binary64 0x3e7a_d7f2_9abc_af48

pub pi_literal : pi ≡ π
unfolding of_bits π
pi_literal = refl

pub eps_literal : eps ≡ tolerance
unfolding of_bits tolerance
eps_literal = refl

-- ---- rows

pub cosine_made : (w : Bool) (x c : Float) → c ≡ cos_of (pi /ᶠ x) → pick w (neg c) c ≡ cosine w x
unfolding cosine
cosine_made w x c e = rw (e, pi_literal)

pub row_made :
    (w : Bool) (e f : Square) (i j : ℕ) (x a d p : Float) → x ≡ e i j → a ≡ cosine w x → d ≡ dot (f i) (f j) (j + 1) → p ≡ f j j → (a -ᶠ d) /ᶠ p ≡ row w e f i j
unfolding row
row_made w e f i j x a d p ex ea ed ep = rw (ea, ex, ed, ep, add-one)

pub rows_none : (w : Bool) (e f : Square) (i : ℕ) → rows w e f i 0 ≡ f
unfolding rows
rows_none w e f i = refl

-- the store of a row in its array
pub rows_more :
    (w : Bool) (N : ℕ) (e f : Square) (i j : ℕ) (l : List Float) (v : Float) → i < N → j < N → l ≡ flat_square N (rows w e f i j) → v ≡ row w e (rows w e f i j) i j
    → set l (N * i + j) v ≡ flat_square N (rows w e f i (j + 1))
unfolding rows
rows_more w N e f i j l v h k el ev = rw (add-one, el, ev) (square_put N (rows w e f i j) i j (row w e (rows w e f i j) i j) h k)

-- ---- columns

-- the array m holds a square from which the columns that are left, from column i on, give the whole answer
pub record Towards (w : Bool) (N : ℕ) (e : Square) (n i : ℕ) (m : List Float) : Type 0 where
  pub square : Square
  pub held : m ≡ flat_square N square
  pub left : columns w e n (n - i) i square ≡ mirrors w e n

pub none_made : (w : Bool) (N : ℕ) (e : Square) (n : ℕ) (m : List Float) → m ≡ flat_square N zeros → Towards w N e n 0 m
unfolding mirrors
none_made w N e n m h = record { square = zeros; held = h; left = rw sub-zero }

pub all_made : (w : Bool) (N : ℕ) (e : Square) (n i : ℕ) (m : List Float) (t : Towards w N e n i m) → n ≤ i → Columns t.square ≡ mirrors w e n
unfolding columns
all_made w N e n i m t h =
    let none : 0 ≡ n - i = omega arith in
    ap (λ k. columns w e n k i t.square) none ∙ t.left

-- column i with its rows made
abbrev pub filled : {w : Bool} {N : ℕ} {e : Square} {n i : ℕ} {m : List Float} → Towards w N e n i m → Square
filled {w = w} {e = e} {i = i} t = rows w e t.square i i

-- s is the sum of squares of column i; v is what the code puts on the diagonal
module _ (w : Bool) (N : ℕ) (e : Square) (n i : ℕ) (m : List Float) (t : Towards w N e n i m) (s : Float) (below : i < n) (summed : s ≡ dot (filled t i) (filled t i) n) where
  opened : columns w e n (n - i) i t.square ≡ pick (le (one -ᶠ tolerance) s) (Refused i) (columns w e n (n - (i + 1)) (i + 1) (put (filled t) i i (root_of (one -ᶠ s))))
  unfolding columns
  opened =
      let more : n - i ≡ suc (n - (i + 1)) = omega arith in
      rw (more, add-one, summed)

  answer : (b : Bool) → le (unit -ᶠ eps) s ≡ b → pick b (Refused i) (columns w e n (n - (i + 1)) (i + 1) (put (filled t) i i (root_of (one -ᶠ s)))) ≡ mirrors w e n
  answer b h = rw (← h, one_literal, eps_literal) (sym opened ∙ t.left)

  pub column_refused : le (unit -ᶠ eps) s ≡ true → Refused i ≡ mirrors w e n
  column_refused h = answer true h

  pub column_made :
      (l : List Float) (v : Float) → i < N → l ≡ flat_square N (filled t) → le (unit -ᶠ eps) s ≡ false → v ≡ root_of (unit -ᶠ s)
      → Towards w N e n (i + 1) (set l (N * i + i) v)
  column_made l v h el en ev =
      record {
        square = put (filled t) i i (root_of (one -ᶠ s));
        held = rw (el, ev, one_literal) (square_put N (filled t) i i (root_of (one -ᶠ s)) h h);
        left = answer false en;
      }

-- ---- the answer, as the code holds it

pub refusal_shown : (x : Mirrors) (i : ℕ) → Refused i ≡ x → Err (Crowded i) ≡ mirrors_of x
unfolding mirrors_of
refusal_shown x i e = ap mirrors_of e

pub columns_shown : (x : Mirrors) (f : Square) (l : List Float) → l ≡ flat_square limit f → Columns f ≡ x → Ok l ≡ mirrors_of x
unfolding mirrors_of
columns_shown x f l h e = ap Ok h ∙ ap mirrors_of e
