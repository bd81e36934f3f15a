-- `generator::rest` meets its contract; Invariants.antt has the argument.
use mathlib.Core.Path.{ap₂, ◌∙◌}
use native.Mathlib.Omega.{arith}
use lib.Ieee.{nan}
use Rattle.float.specs.Numbers.{◌/ᶠ◌}
use Rattle.cd.specs.Diagrams.{limit}
use Rattle.cox.proofs.Sums.{two_literal, row_read, entry_read}
use Rattle.generator.proofs.Rows.{rest_none, rest_more}
use Rattle.generator.proofs.rest.Goals as goal

pub loop-k-init : goal.loop-k-init
loop-k-init c f b e w = ap₂ ◌/ᶠ◌ (row_read limit b _ nan w c.args.i c.requires) two_literal ∙ rest_none f b c.args.i

pub loop-k-preserved : goal.loop-k-preserved
loop-k-preserved c f b e w =
    rest_more f b c.args.i c.loop-k.k _ _ _ (c.loop-k.invariant f b e w)
    (row_read limit b _ nan w c.loop-k.k (omega arith))
    (entry_read limit f _ nan e c.args.i c.loop-k.k c.requires (omega arith))
