-- `records::put_pairs` meets its contract; Invariants.antt has the argument.
use mathlib.Core.Path.{refl, sym}
use Prim.Native.Nat.{◌+◌}
use native.Mathlib.Omega.{arith}
use Rattle.cd.specs.Diagrams.{limit}
use Rattle.filing.specs.Bytes.{blocks}
use Rattle.filing.specs.Numberings.{at}
use Rattle.filing.specs.Records.{nodes_length}
use Rattle.filing.proofs.Bytes.{written_nil}
use Rattle.tables.specs.Tables.{entries, table_pairs}
use Rattle.records.proofs.Layouts.{pairs_more, row_fits, row_then}
use Rattle.records.proofs.put_pairs.Goals as goal

pub loop-j-init : goal.loop-j-init
unfolding table_pairs blocks
loop-j-init c = (refl, sym (written_nil _ _))

pub put_row-requires : goal.put_row-requires
put_row-requires c =
    let a = c.args in
    (c.loop-j-test.true, c.requires.0, omega (arith, row_fits limit (entries a.t.now) (at a.p.now) c.loop-j.j (omega (arith, a.t.now.few))))

pub overflow_add-k : goal.overflow_add-k
overflow_add-k c = let a = c.args in omega (arith, row_fits limit (entries a.t.now) (at a.p.now) c.loop-j.j (omega (arith, a.t.now.few)))

pub loop-j-preserved : goal.loop-j-preserved
loop-j-preserved c =
    let a = c.args in
    let j = c.loop-j.j in
    let fits = row_fits limit (entries a.t.now) (at a.p.now) j (omega (arith, a.t.now.few)) in (
      omega (arith, pairs_more limit (entries a.t.now) (at a.p.now) j),
      (cc (row_then limit (entries a.t.now) (at a.p.now) (1 + nodes_length limit) j a.out.now (omega (arith, fits)))),
    )
