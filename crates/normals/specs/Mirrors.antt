-- Document 01, "Matrix, mirrors, families": "Mirrors (`Cox::normals`), columns starting as zeros and taken by rising i". Document 02, K7: "Add a second set of
-- mirrors with each cosine negated, 01's steps and tolerance otherwise": Coxeter's walls, which "meet with product −cos(π/m)". `walls` tells which set.
use Rattle.std.specs.Prelude.{Bool, ℕ, zero, suc, Float}
use Rattle.std.specs.Float.Ieee.{le, neg}
use Rattle.float.specs.Constants.{π, tolerance}
use Rattle.float.specs.Cosine.{cos_of}
use Rattle.float.specs.Numbers.{◌-ᶠ◌, ◌/ᶠ◌}
use Rattle.float.specs.Pick.{pick}
use Rattle.float.specs.Root.{root_of}
use Rattle.cox.specs.Squares.{Square, one, zeros, put, dot}

-- "cos(π ÷ entry(i,j))"; of walls "negated", so that −0.0 stands where the cosine is 0.0
unfoldable pub cosine : Bool → Float → Float
unfolding cos_of π
cosine walls x = let c = cos_of (π /ᶠ x) in pick walls (neg c) c

-- "dot sums rows 0 to j of columns i and j, and row j becomes (cos(π ÷ entry(i,j)) − dot) ÷ row j of column j"
unfoldable pub row : Bool → Square → Square → ℕ → ℕ → Float
unfolding dot cosine
row walls entry m i j = (cosine walls (entry i j) -ᶠ dot (m i) (m j) (suc j)) /ᶠ m j j

-- "for each j < i, rising": the first j rows of column i
unfoldable pub rows : Bool → Square → Square → ℕ → ℕ → Square
unfolding row put
rows walls entry m i zero = m
rows walls entry m i (suc j) = let f = rows walls entry m i j in put f i j (row walls entry f i j)

-- the mirrors, one a column, or the column that is refused
pub data Mirrors : Type 0 where
  Columns : Square → Mirrors
  Refused : ℕ → Mirrors

-- "Then s is the sum of squares; s ≥ 1 − 1e-7 is refused; else row i is root(1 − s)": k columns, from column i on, of n
unfoldable pub columns : Bool → Square → ℕ → ℕ → ℕ → Square → Mirrors
unfolding rows dot put root_of tolerance
columns walls entry n zero i m = Columns m
columns walls entry n (suc k) i m =
    let f = rows walls entry m i i in
    let s = dot (f i) (f i) n in
    let r = columns walls entry n k (suc i) (put f i i (root_of (one -ᶠ s))) in
    pick (le (one -ᶠ tolerance) s) (Refused i) r

unfoldable pub mirrors : Bool → Square → ℕ → Mirrors
unfolding columns
mirrors walls entry n = columns walls entry n n 0 zeros
