-- `replay_names::put_groups` meets its contract: each component takes 67 bytes at most.
use Rattle.std.proofs.Common.{◌*◌}
use Rattle.lines.specs.Written.{AddsAtMost}
use Rattle.replay_names.proofs.put_groups.Given as goal

abbrev pub invariant-loop-g : goal.invariant-loop-g
invariant-loop-g l = AddsAtMost (67 * l.g-index) l.initial.out l.out
