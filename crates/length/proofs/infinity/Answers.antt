-- `length::infinity` meets its contract: antt computes the constants.
use lib.Ieee
use Rattle.float.specs.Decimal.{signed}
use Rattle.length.proofs.infinity.Goals as goal

pub returns-then-minus : goal.returns-then-minus
unfolding Ieee.of_bits Ieee.of_fields Ieee.neg signed
returns-then-minus c = rw c.if-minus.true

pub returns-else-minus : goal.returns-else-minus
unfolding Ieee.of_bits Ieee.of_fields signed
returns-else-minus c = rw c.if-minus.false
