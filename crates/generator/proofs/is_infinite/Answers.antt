-- `generator::is_infinite` meets its contract: the kit's test is the definition's, case by case.
use mathlib.Core.Path.{◌≡◌, refl, ◌∙◌}
use lib.Ieee.{Float, nan, inf, fin}
use Rattle.std.specs.Float.{float_is_infinite}
use Rattle.generator.specs.Generator.{is_infinite}
use Rattle.generator.proofs.is_infinite.Goals as goal

same : (v : Float) → float_is_infinite v ≡ is_infinite v
unfolding float_is_infinite is_infinite
same nan = refl
same (inf s) = refl
same (fin s m e) = refl

pub returns : goal.returns
returns c = c.is_infinite.ensures.value ∙ same c.args.v
