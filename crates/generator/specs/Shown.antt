-- How the code holds a generator: past the count there are the values of unringed nodes.
use Rattle.std.specs.Prelude.{ℕ, ltb, Float}
use Rattle.float.specs.Numbers.{◌-ᶠ◌, ◌*ᶠ◌}
use Rattle.float.specs.Pick.{pick}
use Rattle.cd.specs.Diagrams.{limit}
use Rattle.cox.specs.Squares.{Square, flat}
use Rattle.generator.specs.Generator.{radius}
use Rattle.generator.specs.declared.Generator as declared

unfoldable pub generator_of : ℕ → (ℕ → Float) → declared.Generator
unfolding flat radius
generator_of n b = record { at = flat limit b; count = n; radius = radius b n }

-- the coordinates below k have lost v times their row of column i
unfoldable pub lost : Square → ℕ → Float → (ℕ → Float) → ℕ → ℕ → Float
lost m i v b k r = pick (ltb r k) (b r -ᶠ v *ᶠ m i r) (b r)
