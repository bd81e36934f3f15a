-- `float::constants::values` meets its contract: antt computes each decimal's bits.
use mathlib.Core.Path.{refl}
use lib.Ieee.{of_bits}
use Rattle.float.specs.Constants.{constants}
use Rattle.float.proofs.constants.values.Goals as goal

pub returns : goal.returns
unfolding of_bits constants
returns c = refl
