-- `lines::answer_lines` is safe and ends: no contract says what a program reads or writes. The invariant: a line's answer has room.
use Rattle.std.proofs.Common.{length}
use Rattle.lines.specs.Written.{HasHalf}
use Rattle.lines.proofs.answer_lines.Given as goal

abbrev pub invariant-loop-rest : goal.invariant-loop-rest
invariant-loop-rest g l = HasHalf l.out

abbrev pub decreases-loop-rest : goal.decreases-loop-rest
decreases-loop-rest g l = length l.rest
