-- Document 01, "Recasting the Rust": "`DMatrix`: 81 doubles in one array." A square is a function of column and row; N × N of its entries stand in one array,
-- row r of column c at N × c + r. Sums run "by rising index from 0.0". N is the limit of nodes.
use Rattle.std.specs.Prelude.{◌&&◌, List, [], ◌∷◌, ℕ, zero, suc, eqb, Float}
use Rattle.float.specs.Numbers.{whole, ◌+ᶠ◌, ◌*ᶠ◌}
use Rattle.float.specs.Pick.{pick}
use Rattle.filing.specs.Bytes.{blocks}

abbrev pub Square : Type 0
Square = ℕ → ℕ → Float

abbrev pub nil : Float
nil = whole 0

abbrev pub one : Float
one = whole 1

abbrev pub two : Float
two = whole 2

-- a square of zeros
abbrev pub zeros : Square
zeros c r = nil

-- the square with v in row r of column c
unfoldable pub put : Square → ℕ → ℕ → Float → Square
put m c r v i j = pick (eqb i c && eqb j r) v (m i j)

-- a row of N numbers, and a square, in one array
unfoldable pub flat : {A : Type 0} → ℕ → (ℕ → A) → List A
unfolding blocks
flat N f = blocks (λ i. f i ∷ []) N

unfoldable pub flat_square : ℕ → Square → List Float
unfolding flat blocks
flat_square N m = blocks (λ c. flat N (m c)) N

-- f 0 × g 0 + .. + f (k − 1) × g (k − 1)
unfoldable pub dot : (ℕ → Float) → (ℕ → Float) → ℕ → Float
dot f g zero = nil
dot f g (suc k) = dot f g k +ᶠ f k *ᶠ g k
