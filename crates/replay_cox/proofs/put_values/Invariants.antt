-- `replay_cox::put_values` meets its contract: each value takes 17 bytes at most.
use Rattle.std.proofs.Common.{◌*◌}
use Rattle.lines.specs.Written.{AddsAtMost}
use Rattle.replay_cox.proofs.put_values.Given as goal

abbrev pub invariant-loop-v : goal.invariant-loop-v
invariant-loop-v l = AddsAtMost (17 * l.v-index) l.initial.out l.out
