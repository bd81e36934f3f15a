-- `replay_reading::put_edges` meets its contract: each edge takes 84 bytes at most.
use Rattle.std.proofs.Common.{◌*◌}
use Rattle.lines.specs.Written.{AddsAtMost}
use Rattle.replay_reading.proofs.put_edges.Given as goal

abbrev pub invariant-loop-k : goal.invariant-loop-k
invariant-loop-k l = AddsAtMost (84 * l.k) l.initial.out l.out
