-- `lines::spelled::number` meets its contract. The invariant: what is read is below the power of its digits.
use Rattle.std.proofs.Common.{◌<◌, ◌^◌}
use Rattle.lines.proofs.spelled.number.Given as goal

abbrev pub invariant-loop-b : goal.invariant-loop-b
invariant-loop-b l = l.n < 16 ^ l.b-index
