-- `generator::lose` meets its contract; Invariants.antt has the argument.
use native.Mathlib.Omega.{arith}
use lib.Ieee.{nan}
use Rattle.cd.specs.Diagrams.{limit}
use Rattle.cox.proofs.Sums.{entry_read}
use Rattle.generator.proofs.Rows.{lost_none, lost_more}
use Rattle.generator.proofs.lose.Goals as goal

pub loop-r-init : goal.loop-r-init
loop-r-init c f b e w = lost_none f c.args.i c.args.v b limit _ w

pub loop-r-preserved : goal.loop-r-preserved
loop-r-preserved c f b e w =
    lost_more f c.args.i c.args.v b limit _ nan _ c.loop-r.r (omega arith) (c.loop-r.invariant f b e w)
    (entry_read limit f _ nan e c.args.i c.loop-r.r c.requires (omega arith))
