-- `cox::zeros` meets its contract: computed.
use mathlib.Core.Path.{refl}
use lib.Ieee.{of_bits}
use Rattle.cox.specs.Squares.{flat_square}
use Rattle.float.specs.Numbers.{whole}
use Rattle.cox.proofs.zeros.Goals as goal

pub returns : goal.returns
unfolding flat_square whole of_bits
returns c = refl
