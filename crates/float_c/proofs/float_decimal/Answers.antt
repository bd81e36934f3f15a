-- `float_c::float_decimal` meets its contract: a case of the definition for each answer.
use mathlib.Core.Path.{◌≡◌, refl, ap, ◌∙◌}
use lib.Ieee.{of_bits}
use mir.Facts.{to_z-of_z}
use Rattle.std.specs.Prelude.{Float, Option, Some, None, unwrap_or}
use Rattle.std.specs.Float.{nan}
use Rattle.float_c.specs.Export.{or_nan}
use Rattle.float_c.proofs.float_decimal.Goals as goal

shown : (x : Option Float) → unwrap_or x nan ≡ or_nan x
unfolding or_nan
shown (Some v) = refl
shown None = refl

pub returns : goal.returns
unfolding of_bits
returns c = c.unwrap_or.ensures ∙ shown _ ∙ ap or_nan (rw (to_z-of_z c.ranges.p) at c.decimal.ensures)
