-- `readback::is_number` meets its contract: a nan's bits without the sign are above those of the infinity.
use Rattle.readback.proofs.Nodes.{number_bits}
use Rattle.readback.proofs.is_number.Goals as goal

pub returns : goal.returns
returns c = number_bits c.args.bits
