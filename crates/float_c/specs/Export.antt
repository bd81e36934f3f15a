-- A literal's value as one double: C has no type that may hold no value.
use Rattle.std.specs.Prelude.{Float, Option, Some, None}
use Rattle.std.specs.Float.{nan}

-- the value, or a NaN where the literal is out of range
unfoldable pub or_nan : Option Float → Float
or_nan (Some v) = v
or_nan None = nan
