-- `generator::place` meets its contract; Invariants.antt has the argument.
use mathlib.Core.Path.{ap, ◌∙◌}
use native.Mathlib.Omega.{arith}
use lib.Ieee.{nan}
use Rattle.cd.specs.Diagrams.{limit}
use Rattle.cox.specs.Squares.{flat}
use Rattle.cox.proofs.Sums.{entry_read}
use Rattle.generator.specs.TrueDistances.{placeᶠ}
use Rattle.generator.proofs.Rows.{place_none, place_more}
use Rattle.generator.proofs.place.Goals as goal

pub loop-i-init : goal.loop-i-init
loop-i-init c f b e w = w ∙ ap (flat limit) (place_none f b)

pub loop-i-preserved : goal.loop-i-preserved
loop-i-preserved c f b e w =
    let i = c.loop-i.i in
    let held = c.loop-i.invariant f b e w in
    place_more f i b _ _ limit _ (omega arith) held (c.rest.ensures f (placeᶠ f i b) e held) (entry_read limit f _ nan e i i (omega arith) (omega arith))
