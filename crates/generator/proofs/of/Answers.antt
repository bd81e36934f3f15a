-- `generator::of` meets its contract: the coordinates solve the system, and the circumradius is the root of the sum of their squares.
use mathlib.Core.Path.{ap, ◌∙◌}
use lib.ListN.{take}
use Rattle.cd.specs.Diagrams.{limit}
use Rattle.cox.proofs.Flats.{flat_front}
use Rattle.generator.specs.Generator.{radius}
use Rattle.generator.specs.Shown.{generator_of}
use Rattle.generator.specs.TrueDistances.{coordinates}
use Rattle.generator.proofs.of.Goals as goal

pub returns : goal.returns
unfolding generator_of radius
returns c f b e w =
    let n = c.args.n in
    let p = coordinates c.args.walls f n b in
    let at = c.coordinates-at.ensures f b e w in
    let front = ap (take n) at ∙ flat_front limit p n c.requires in
    rw (c.fsqrt.ensures, c.dot-squares.ensures p p n front front, at)
