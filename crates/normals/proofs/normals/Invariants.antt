-- `normals::normals` meets its contract. The invariant: the columns that are left, from the square that the array holds, give the whole answer.
use mathlib.Core.Path.{◌≡◌}
use Rattle.cd.specs.Diagrams.{limit}
use Rattle.cox.specs.Squares.{Square, flat_square}
use Rattle.normals.proofs.Columns.{Towards}
use Rattle.normals.proofs.normals.Given as goal

abbrev pub invariant-loop-i : goal.invariant-loop-i
invariant-loop-i l = (e : Square) → l.cox ≡ flat_square limit e → Towards l.walls limit e l.n l.i l.m
