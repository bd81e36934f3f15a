-- `normals::rows` meets its contract; Invariants.antt has the argument.
use mathlib.Core.Path.{sym, ap, ◌∙◌}
use native.Mathlib.Omega.{arith}
use Rattle.cd.specs.Diagrams.{limit}
use Rattle.cox.specs.Squares.{flat_square}
use Rattle.normals.specs.Mirrors.{rows}
use Rattle.normals.proofs.Columns.{rows_none, rows_more}
use Rattle.normals.proofs.rows.Goals as goal

pub loop-j-init : goal.loop-j-init
loop-j-init c e f p q = q ∙ ap (flat_square limit) (sym (rows_none c.args.walls e f c.args.i))

pub loop-j-preserved : goal.loop-j-preserved
loop-j-preserved c e f p q =
    let a = c.args in
    let made = c.loop-j.invariant e f p q in
    rows_more a.walls limit e f a.i c.loop-j.j _ _ (omega arith) (omega arith) made (c.row.ensures e (rows a.walls e f a.i c.loop-j.j) p made)
