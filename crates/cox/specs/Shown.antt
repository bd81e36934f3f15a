-- How the code holds a matrix.
use Rattle.std.specs.Prelude.{List, ℕ, eqb, Float, length, get_or}
use Rattle.std.specs.Float.{nan}
use Rattle.float.specs.Pick.{pick}
use Rattle.cd.specs.Diagrams.{Stored, limit, place_of}
use Rattle.cd.specs.declared.Node.{Node}
use Rattle.cd.specs.declared.Pair.{Pair}
use Rattle.cox.specs.Families.{family_matrix}
use Rattle.cox.specs.Matrix.{quotient, matrix}
use Rattle.cox.specs.Squares.{Square, one, two, flat_square}
use Rattle.cox.specs.declared.Cox.{Cox}

-- what stands for two different nodes, by the place of their pair
unfoldable pub pair_value : Pair → Float
unfolding quotient
pair_value p = pick (eqb p.rank 0) two (quotient p.edge)

-- the square that such values tell
unfoldable pub entries : List Float → Square
entries vs i j = pick (eqb i j) one (get_or vs (place_of i j) nan)

-- past the count, the matrix of nodes that nothing joins
unfoldable pub cox_of : List Node → List Stored → Cox
unfolding flat_square matrix
cox_of ns es = record { at = flat_square limit (matrix es); count = length ns }

-- past the size, the matrix goes on as that of a longer family of its letter
unfoldable pub family_of : ℕ → ℕ → Cox
unfolding flat_square family_matrix
family_of c n = record { at = flat_square limit (family_matrix c); count = n }
