-- A row of coordinates in an array: one coordinate more has lost; one is divided, and those before it have lost it. A store changes one
-- entry of the row, and rows with the same entries stand in the same array. Assumes nothing.
use mathlib.Core.List.{List}
use mathlib.Core.Logic.{◌≢◌}
use mathlib.Core.Path.{◌≡◌, refl, sym, ◌∙◌}
use Prim.Native.Nat.{ℕ, zero, suc, ◌+◌, ◌-◌, ◌<◌, ◌≤◌}
use native.Mathlib.Decide.{dec_lt}
use native.Mathlib.Nat.{le_refl, not-suc-le-zero}
use native.Mathlib.Numerals.{add-one, sub-one}
use native.Mathlib.Omega.{arith}
use borrow.Author.Tests.{lt-ltb, le-ltb, eq-eqb, ne_eqb}
use lib.Dec.{eqb}
use lib.Ieee.{Float}
use lib.ListN.{get_or, set}
use Rattle.float.specs.Numbers.{◌-ᶠ◌, ◌*ᶠ◌, ◌/ᶠ◌}
use Rattle.float.specs.Pick.{pick}
use Rattle.cox.specs.Squares.{Square, two, flat}
use Rattle.cox.proofs.Flats.{flat_set, flat_same}
use Rattle.cox.proofs.Sums.{row_read}
use Rattle.generator.specs.Generator.{solved, solve}
use Rattle.generator.specs.Shown.{lost}
use Rattle.generator.specs.TrueDistances.{rest, restᶠ, placed, place, placeᶠ}

-- ---- the coordinates that have lost

module _ (f : Square) (i : ℕ) (v : Float) (c : ℕ → Float) where
  lost_below : (k r : ℕ) → r < k → lost f i v c k r ≡ c r -ᶠ v *ᶠ f i r
  unfolding lost
  lost_below k r h = rw (lt-ltb r k h)

  lost_other : (k r : ℕ) → k ≤ r → lost f i v c k r ≡ c r
  unfolding lost
  lost_other k r h = rw (le-ltb r k h)

  lost_kept : (r k : ℕ) → k ≢ r → lost f i v c (r + 1) k ≡ lost f i v c r k
  lost_kept r k n =
      elim (dec_lt k r) [
        | yes h ↦ lost_below (r + 1) k (omega arith) ∙ sym (lost_below r k h)
        | no h ↦ lost_other (r + 1) k (omega arith) ∙ sym (lost_other r k (omega arith))
      ]

  pub lost_none : (N : ℕ) (out : List Float) → out ≡ flat N c → out ≡ flat N (lost f i v c 0)
  lost_none N out e = e ∙ flat_same N c (lost f i v c 0) (λ r h. sym (lost_other 0 r (omega arith)))

  pub lost_more : (N : ℕ) (out : List Float) (d x : Float) (r : ℕ) → r < N → out ≡ flat N (lost f i v c r) → x ≡ f i r
      → set out r (get_or out r d -ᶠ v *ᶠ x) ≡ flat N (lost f i v c (r + 1))
  lost_more N out d x r h e w =
      let here : get_or out r d ≡ c r = row_read N (lost f i v c r) out d e r h ∙ lost_other r r (le_refl r) in
      rw (here, w, e) (flat_set N (lost f i v c r) (lost f i v c (r + 1)) r (c r -ᶠ v *ᶠ f i r) h (lost_below (r + 1) r (omega arith)) (λ k q. lost_kept r k))

-- ---- one coordinate divided, and lost by those before it

module _ (f : Square) (i : ℕ) (c : ℕ → Float) (v : Float) (e : v ≡ c i /ᶠ f i i) where
  -- the row with the quotient in place i
  divided : ℕ → Float
  divided r = pick (eqb r i) v (c r)

  divided_here : divided i ≡ v
  unfolding divided
  divided_here = rw (eq-eqb i i refl)

  divided_other : (r : ℕ) → r ≢ i → divided r ≡ c r
  unfolding divided
  divided_other r n = rw (ne_eqb r i n)

  lost_solved : (r : ℕ) → lost f i v divided i r ≡ solved f i c r
  unfolding solved divided
  lost_solved r =
      elim (dec_lt r i) [
        | yes h ↦ lost_below f i v divided i r h ∙ rw (lt-ltb r i h, ne_eqb r i (omega arith), e)
        | no h ↦ lost_other f i v divided i r (omega arith) ∙ rw (le-ltb r i (omega arith), e)
      ]

  -- next is what the row is once it has lost what was stored
  pub solved_row : (N : ℕ) (out next : List Float) → i < N → out ≡ flat N c → ((b : ℕ → Float) → set out i v ≡ flat N b → next ≡ flat N (lost f i v b i)) → next ≡ flat N (solved f i c)
  solved_row N out next h w l =
      let stored : set out i v ≡ flat N divided = rw w (flat_set N c divided i v h divided_here (λ k q. divided_other k)) in
      l divided stored ∙ flat_same N (lost f i v divided i) (solved f i c) (λ r q. lost_solved r)

-- ---- the rows that are left

pub solve_last : (f : Square) (i : ℕ) (c : ℕ → Float) → 0 < i → solve f (i - 1) (solved f (i - 1) c) ≡ solve f i c
unfolding solve
solve_last f zero c h = absurd (not-suc-le-zero h)
solve_last f (suc i) c h = rw sub-one

pub solve_done : (f : Square) (i : ℕ) (c : ℕ → Float) → i ≡ 0 → c ≡ solve f i c
unfolding solve
solve_done f i c e = rw e

-- ---- over walls

pub rest_none : (f : Square) (b : ℕ → Float) (i : ℕ) → b i /ᶠ two ≡ restᶠ f b i 0
unfolding rest
rest_none f b i = refl

pub rest_more : (f : Square) (b : ℕ → Float) (i k : ℕ) (s x y : Float) → s ≡ restᶠ f b i k → x ≡ b k → y ≡ f i k → s -ᶠ x *ᶠ y ≡ restᶠ f b i (k + 1)
unfolding rest
rest_more f b i k s x y e p q = rw (add-one, e, p, q)

pub place_none : (f : Square) (c : ℕ → Float) → c ≡ placeᶠ f 0 c
unfolding place
place_none f c = refl

-- the store of coordinate i
pub place_more : (f : Square) (i : ℕ) (c : ℕ → Float) (s d : Float) (N : ℕ) (out : List Float) → i < N → out ≡ flat N (placeᶠ f i c)
    → s ≡ restᶠ f (placeᶠ f i c) i i → d ≡ f i i → set out i (s /ᶠ d) ≡ flat N (placeᶠ f (i + 1) c)
unfolding place placed
place_more f i c s d N out h w e q =
    rw (add-one, w, e, q) (flat_set N (placeᶠ f i c) _ i _ h (rw (eq-eqb i i refl)) (λ r l n. rw (ne_eqb r i n)))
