-- The matrices are symmetric, bit for bit: each test that they are told by is the same for i, j and for j, i. Assumes nothing.
use mathlib.Core.Bool.{Bool, true, false, ◌&&◌, ◌||◌, and_comm, or_comm}
use mathlib.Core.List.{List, [], ◌∷◌}
use mathlib.Core.Path.{◌≡◌, refl, sym, ap, ap₂, ◌∙◌}
use Prim.Native.Nat.{ℕ, ◌+◌}
use native.Mathlib.Decide.{ℕ_discrete}
use borrow.Author.Tests.{ne_eqb}
use lib.Dec.{eqb}
use Rattle.float.specs.Numbers.{whole}
use Rattle.float.specs.Pick.{pick}
use Rattle.cd.specs.Diagrams.{Stored}
use Rattle.cd.proofs.Stored.{joins_symmetric}
use Rattle.scan.specs.Bytes.{is}
use Rattle.cox.specs.Families.{is_entry, chain, made, family, family_matrix}
use Rattle.cox.specs.Matrix.{between, matrix}

eqb_symmetric : (i j : ℕ) → eqb i j ≡ eqb j i
eqb_symmetric i j =
    elim (ℕ_discrete i j) [
      | yes e ↦ rw e
      | no n ↦ ne_eqb i j n ∙ sym (ne_eqb j i (λ e. n (sym e)))
    ]

-- ---- the matrix of a diagram

between_symmetric : (es : List Stored) (i j : ℕ) → between es i j ≡ between es j i
unfolding between
between_symmetric [] i j = refl
between_symmetric (s ∷ es) i j = rw (joins_symmetric i j s, between_symmetric es i j)

pub matrix_symmetric : (es : List Stored) (i j : ℕ) → matrix es i j ≡ matrix es j i
unfolding matrix
matrix_symmetric es i j = rw (eqb_symmetric i j, between_symmetric es i j)

-- ---- the matrices of the families

abbrev pub IsSymmetric : (ℕ → ℕ → ℕ) → Type 0
IsSymmetric f = (i j : ℕ) → f i j ≡ f j i

entry_symmetric : (a b i j : ℕ) → is_entry a b i j ≡ is_entry a b j i
unfolding is_entry
entry_symmetric a b i j =
    or_comm (eqb i a && eqb j b) (eqb i b && eqb j a) ∙ ap₂ ◌||◌ (and_comm (eqb i b) (eqb j a)) (and_comm (eqb i a) (eqb j b))

pub chain_symmetric : IsSymmetric chain
unfolding chain
chain_symmetric i j = rw (eqb_symmetric i j, or_comm (eqb (i + 1) j) (eqb (j + 1) i))

pub made_symmetric : (a b v : ℕ) (f : ℕ → ℕ → ℕ) → IsSymmetric f → IsSymmetric (made a b v f)
unfolding made
made_symmetric a b v f s i j = rw (entry_symmetric a b i j, s i j)

pick_symmetric : (t : Bool) (f g : ℕ → ℕ → ℕ) → IsSymmetric f → IsSymmetric g → IsSymmetric (pick t f g)
pick_symmetric true f g p q = p
pick_symmetric false f g p q = q

-- of the numbers, and so of the doubles
pub numbers_symmetric : (c i j : ℕ) → family c i j ≡ family c j i
unfolding family
numbers_symmetric c =
    let branched : (b : ℕ) → IsSymmetric (made 0 b 3 (made 0 1 2 chain)) = λ b. made_symmetric 0 b 3 _ (made_symmetric 0 1 2 _ chain_symmetric) in
    pick_symmetric (is "B" c) _ _ (made_symmetric 0 1 4 _ chain_symmetric)
    (pick_symmetric (is "H" c) _ _ (made_symmetric 0 1 5 _ chain_symmetric)
    (pick_symmetric (is "D" c) _ _ (branched 2) (pick_symmetric (is "E" c) _ _ (branched 3) chain_symmetric)))

pub family_symmetric : (c i j : ℕ) → family_matrix c i j ≡ family_matrix c j i
unfolding family_matrix
family_symmetric c i j = ap whole (numbers_symmetric c i j)
