-- `replay_reading::put_nodes` meets its contract: each node takes 18 bytes at most.
use Rattle.std.proofs.Common.{◌*◌}
use Rattle.lines.specs.Written.{AddsAtMost}
use Rattle.replay_reading.proofs.put_nodes.Given as goal

abbrev pub invariant-loop-p : goal.invariant-loop-p
invariant-loop-p l = AddsAtMost (18 * l.p-index) l.initial.out l.out
