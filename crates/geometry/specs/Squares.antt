-- The promises of `matrix`, `mirrors`, `walls`, `family_matrix`, `family_mirrors` and `family_walls`. Document 01, "What each operation refuses": "Mirrors: the text's or,
-- for a family, 17, then 15 with column i." and "Families: 17, letter or size outside the list." Document 02, K7, of walls: "the refusals 15 and 16 follow as in
-- 01". A refusal "gives .. no value".
use Rattle.std.specs.Prelude.{Bool, true, false, ℕ, length, Result, Ok, Err}
use Rattle.float.specs.Pick.{pick}
use Rattle.cd.specs.Diagrams.{limit}
use Rattle.cd.specs.declared.CdError.{CdError}
use Rattle.cd.specs.declared.CdError.TheVariants.{Crowded, NoFamily}
use Rattle.cox.specs.Families.{family_matrix, is_family}
use Rattle.cox.specs.Matrix.{matrix}
use Rattle.cox.specs.Squares as squares
use Rattle.cox.specs.Squares.{flat_square}
use Rattle.normals.specs.Mirrors.{Mirrors, Columns, mirrors}
use Rattle.normals.specs.Mirrors as normals
use Rattle.parse.specs.Reading.{Reading, Accepted, Refused}
use Rattle.geometry.specs.declared.Square.{Square}

unfoldable pub square : ℕ → squares.Square → Square
unfolding flat_square
square n m = record { at = flat_square limit m; count = n }

unfoldable pub shown_mirrors : ℕ → Mirrors → Result Square CdError
unfolding square
shown_mirrors n (Columns m) = Ok (square n m)
shown_mirrors n (normals.Refused i) = Err (Crowded i)

-- ---- of a text

unfoldable pub matrix_of : Reading → Result Square CdError
unfolding square matrix
matrix_of (Accepted ns es) = Ok (square (length ns) (matrix es))
matrix_of (Refused e) = Err e

-- the Rust's mirrors, or walls
unfoldable pub normals_of : Bool → Reading → Result Square CdError
unfolding shown_mirrors mirrors matrix
normals_of walls (Accepted ns es) = shown_mirrors (length ns) (mirrors walls (matrix es) (length ns))
normals_of walls (Refused e) = Err e

abbrev pub mirrors_of : Reading → Result Square CdError
mirrors_of = normals_of false

abbrev pub walls_of : Reading → Result Square CdError
walls_of = normals_of true

-- ---- of a family

unfoldable pub family_matrix_of : ℕ → ℕ → Result Square CdError
unfolding square family_matrix is_family
family_matrix_of c n = pick (is_family limit c n) (Ok (square n (family_matrix c))) (Err NoFamily)

unfoldable pub family_normals_of : Bool → ℕ → ℕ → Result Square CdError
unfolding shown_mirrors mirrors family_matrix is_family
family_normals_of walls c n =
    let r = shown_mirrors n (mirrors walls (family_matrix c) n) in
    pick (is_family limit c n) r (Err NoFamily)

abbrev pub family_mirrors_of : ℕ → ℕ → Result Square CdError
family_mirrors_of = family_normals_of false

abbrev pub family_walls_of : ℕ → ℕ → Result Square CdError
family_walls_of = family_normals_of true
