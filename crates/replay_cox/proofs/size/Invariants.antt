-- `replay_cox::size` is safe and ends. The invariant: what is read is below 1000.
use Rattle.std.proofs.Common.{◌<◌}
use Rattle.replay_cox.proofs.size.Given as goal

abbrev pub invariant-loop-b : goal.invariant-loop-b
invariant-loop-b l = l.n < 1000
