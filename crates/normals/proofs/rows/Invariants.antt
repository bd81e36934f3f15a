-- `normals::rows` meets its contract. The invariant: the first j rows of the column are made; a turn is a store in the array of a square.
use mathlib.Core.Path.{◌≡◌}
use Rattle.cd.specs.Diagrams.{limit}
use Rattle.cox.specs.Squares.{Square, flat_square}
use Rattle.normals.specs.Mirrors.{rows}
use Rattle.normals.proofs.rows.Given as goal

abbrev pub invariant-loop-j : goal.invariant-loop-j
invariant-loop-j l = (e f : Square) → l.cox ≡ flat_square limit e → l.initial.m ≡ flat_square limit f → l.m ≡ flat_square limit (rows l.walls e f l.i l.j)
