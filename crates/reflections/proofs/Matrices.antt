-- The matrices of the reflections made one by one: matrix i is set behind the i before it. Assumes nothing.
use mathlib.Core.List.{List}
use mathlib.Core.Logic.{◌≢◌}
use mathlib.Core.Path.{◌≡◌, refl, sym, ap, ap₂, ◌∙◌}
use Prim.Native.Nat.{ℕ, ◌+◌, ◌<◌}
use native.Mathlib.Omega.{arith}
use borrow.Author.Tests.{lt-ltb, ne_eqb}
use lib.Dec.{ltb}
use lib.Ieee.{Float}
use lib.ListN.{set, replicate}
use Rattle.float.specs.Pick.{pick}
use Rattle.cd.specs.Diagrams.{limit}
use Rattle.cox.specs.Squares.{Square, zeros, flat, flat_square}
use Rattle.cox.proofs.Flats.{flat_set}
use Rattle.reflections.specs.Reflections.{reflection}
use Rattle.reflections.specs.Shown.{reflections_of}
use Rattle.reflections.specs.declared.Matrix.{Matrix}
use Rattle.cox.proofs.Columns.{pick_more}

abbrev pub matrix : Square → Matrix
matrix m = record { at = flat_square limit m }

-- the reflections in the first k mirrors, each of n rows, and zeros in the rest
unfoldable pub made : ℕ → ℕ → Square → List Matrix
unfolding flat flat_square reflection
made k n m = flat limit (λ i. matrix (pick (ltb i k) (reflection (m i) n) zeros))

pub made_none : (n : ℕ) (m : Square) (z : List Float) → z ≡ flat_square limit zeros → replicate limit (record { at = z }) ≡ made 0 n m
unfolding made flat
made_none n m z e = ap (λ at. replicate limit (record { at = at })) e

pub made_more : (i n : ℕ) (m : Square) (l : List Matrix) (a : List Float) → i < limit → a ≡ flat_square limit (reflection (m i) n)
    → l ≡ made i n m → set l i (record { at = a }) ≡ made (i + 1) n m
unfolding made
made_more i n m l a h p e = ap₂ (λ s at. set s i (record { at = at })) e p ∙ flat_set limit _ _ i _ h here other
  where
    here : matrix (pick (ltb i (i + 1)) (reflection (m i) n) zeros) ≡ matrix (reflection (m i) n)
    here = ap (λ t. matrix (pick t (reflection (m i) n) zeros)) (lt-ltb i (i + 1) (omega arith))

    other : (k : ℕ) → k < limit → k ≢ i → matrix (pick (ltb k (i + 1)) (reflection (m k) n) zeros) ≡ matrix (pick (ltb k i) (reflection (m k) n) zeros)
    other k q o =
        ap matrix
        (sym (pick_more k i (reflection (m k) n) (reflection (m k) n) zeros (λ s. refl))
        ∙ ap (λ t. pick t (reflection (m k) n) (pick (ltb k i) (reflection (m k) n) zeros)) (ne_eqb k i o))

pub made_all : (n : ℕ) (m : Square) (l : List Matrix) → l ≡ made n n m → record { of = l; count = n } ≡ reflections_of n m
unfolding made reflections_of
made_all n m l e = ap (λ of. record { of = of; count = n }) e
