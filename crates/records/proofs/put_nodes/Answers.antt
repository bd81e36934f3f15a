-- `records::put_nodes` meets its contract; Invariants.antt has the argument.
use mathlib.Core.Path.{sym}
use native.Mathlib.Omega.{arith}
use Rattle.filing.specs.Bytes.{blocks}
use Rattle.filing.specs.Numberings.{at}
use Rattle.filing.proofs.Bytes.{written_nil}
use Rattle.tables.specs.Tables.{entries, table_nodes}
use Rattle.records.proofs.Layouts.{node_then}
use Rattle.records.proofs.put_nodes.Goals as goal

pub loop-i-init : goal.loop-i-init
unfolding table_nodes blocks
loop-i-init c = sym (written_nil 1 _)

pub loop-i-preserved : goal.loop-i-preserved
loop-i-preserved c = let a = c.args in cc (node_then (entries a.t.now) (at a.p.now) c.loop-i.i a.out.now (omega (arith, a.t.now.few)))
