-- `readback::read_nodes` meets its contract; Invariants.antt has the argument.
use mathlib.Core.Path.{sym}
use native.Mathlib.Omega.{arith}
use Rattle.cd.specs.Diagrams.{limit, place}
use Rattle.cd.specs.declared.Node.TheVariants.{Unringed}
use Rattle.cd.proofs.Arrays.{padded_blank}
use Rattle.readback.proofs.Nodes.{nodes_none, nodes_next}
use Rattle.readback.proofs.read_nodes.Goals as goal

pub loop-i-init : goal.loop-i-init
loop-i-init c = rw (nodes_none c.args.s.now) (sym (padded_blank (place Unringed) limit))

pub loop-i-preserved : goal.loop-i-preserved
loop-i-preserved c = rw (c.loop-i.invariant, c.node_at.ensures) (nodes_next limit _ c.loop-i.i (omega arith))
