-- `replay_cox::put_matrix` meets its contract: each column takes 153 bytes at most.
use Rattle.std.proofs.Common.{◌*◌}
use Rattle.lines.specs.Written.{AddsAtMost}
use Rattle.replay_cox.proofs.put_matrix.Given as goal

abbrev pub invariant-loop-c : goal.invariant-loop-c
invariant-loop-c l = AddsAtMost (153 * l.c) l.initial.out l.out
