-- `normals::normals` meets its contract; Invariants.antt has the argument.
use native.Mathlib.Omega.{arith}
use Rattle.cd.specs.Diagrams.{limit}
use Rattle.normals.proofs.Columns.{filled, none_made, all_made, column_refused, column_made, refusal_shown, columns_shown}
use Rattle.normals.proofs.normals.Goals as goal

pub loop-i-init : goal.loop-i-init
loop-i-init c e p = none_made c.args.walls limit e c.args.n _ c.zeros-m.ensures

pub returns-then-s : goal.returns-then-s
returns-then-s c e p =
    let l = c.loop-i in
    let t = l.invariant e p in
    let made = c.rows.ensures e t.square p t.held in
    refusal_shown _ l.i (column_refused c.args.walls limit e c.args.n l.i l.m t c.dot-s.result (omega arith) (c.dot-s.ensures (filled t l.i) (filled t l.i) c.args.n (c.column-column.ensures (filled t) made) (c.column-column.ensures (filled t) made)) c.if-s.true)

pub loop-i-preserved : goal.loop-i-preserved
loop-i-preserved c e p =
    let l = c.loop-i in
    let t = l.invariant e p in
    let made = c.rows.ensures e t.square p t.held in
    column_made c.args.walls limit e c.args.n l.i l.m t c.dot-s.result (omega arith) (c.dot-s.ensures (filled t l.i) (filled t l.i) c.args.n (c.column-column.ensures (filled t) made) (c.column-column.ensures (filled t) made)) _ c.fsqrt.result (omega arith) made c.if-s.false
    c.fsqrt.ensures

pub returns : goal.returns
returns c e p =
    let l = c.loop-i in
    let t = l.invariant e p in
    columns_shown _ t.square l.m t.held (all_made c.args.walls limit e c.args.n l.i l.m t (omega arith))
