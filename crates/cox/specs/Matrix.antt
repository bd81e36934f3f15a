-- Document 01, "Matrix, mirrors, families": "Matrix (`Cd::cox`): 1 on the diagonal; for every two different nodes the stored edge's num ÷ den as doubles, else 2".
use Rattle.std.specs.Prelude.{List, [], ◌∷◌, ℕ, eqb, Float}
use Rattle.float.specs.Numbers.{whole, ◌/ᶠ◌}
use Rattle.float.specs.Pick.{pick}
use Rattle.cd.specs.Diagrams.{Stored, joins}
use Rattle.cd.specs.declared.Edge.{Edge}
use Rattle.cox.specs.Squares.{Square, one, two}

-- "num ÷ den as doubles"
unfoldable pub quotient : Edge → Float
unfolding whole
quotient e = whole e.num /ᶠ whole e.den

-- what stands for two different nodes
unfoldable pub between : List Stored → ℕ → ℕ → Float
unfolding joins quotient
between [] i j = two
between (s ∷ ss) i j = let r = between ss i j in pick (joins i j s) (quotient s.edge) r

unfoldable pub matrix : List Stored → Square
unfolding between
matrix es i j = pick (eqb i j) one (between es i j)
