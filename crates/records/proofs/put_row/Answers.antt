-- `records::put_row` meets its contract; Invariants.antt has the argument.
use mathlib.Core.Path.{◌≡◌, sym}
use native.Mathlib.Omega.{arith}
use Rattle.cd.specs.Diagrams.{limit}
use Rattle.filing.specs.Bytes.{blocks}
use Rattle.filing.specs.Numberings.{at}
use Rattle.filing.proofs.Bytes.{written_nil}
use Rattle.tables.specs.Tables.{entries, table_row}
use Rattle.records.proofs.Layouts.{pair_then}
use Rattle.records.proofs.put_row.Goals as goal

pub loop-i-init : goal.loop-i-init
unfolding blocks
loop-i-init c = sym (written_nil _ _)

pub loop-i-preserved : goal.loop-i-preserved
loop-i-preserved c = let a = c.args in cc (pair_then limit (entries a.t.now) (at a.p.now) a.j a.k c.loop-i.i a.out.now (omega arith))

pub returns : goal.returns
unfolding table_row
returns c = let e : c.loop-i.i ≡ c.args.j = omega arith in rw e at c.loop-i.invariant
