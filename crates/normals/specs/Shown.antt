-- How the code holds mirrors: as columns in one array, or as document 01's refusal 15.
use Rattle.std.specs.Prelude.{List, Float, Result, Ok, Err}
use Rattle.cd.specs.Diagrams.{limit}
use Rattle.cd.specs.declared.CdError.{CdError}
use Rattle.cd.specs.declared.CdError.TheVariants.{Crowded}
use Rattle.cox.specs.Squares.{flat_square}
use Rattle.normals.specs.Mirrors.{Mirrors, Columns, Refused}

unfoldable pub mirrors_of : Mirrors → Result (List Float) CdError
unfolding flat_square
mirrors_of (Columns m) = Ok (flat_square limit m)
mirrors_of (Refused i) = Err (Crowded i)
