-- `normals::row` meets its contract: each part is read from its array or promised by its callee.
use native.Mathlib.Omega.{arith}
use lib.Ieee.{nan}
use Prim.Native.Nat.{◌+◌}
use Rattle.cd.specs.Diagrams.{limit}
use Rattle.cox.proofs.Sums.{entry_read}
use Rattle.normals.proofs.Columns.{row_made}
use Rattle.normals.proofs.row.Goals as goal

pub returns : goal.returns
returns c e f p q =
    let a = c.args in
    row_made a.walls e f a.i a.j _ _ _ _
    (entry_read limit e _ nan p a.i a.j (omega arith) (omega arith))
    c.cosine-product.ensures
    (c.dot-dot.ensures (f a.i) (f a.j) (a.j + 1) (c.column.ensures f q) (c.column-2.ensures f q))
    (entry_read limit f _ nan q a.j a.j (omega arith) (omega arith))
