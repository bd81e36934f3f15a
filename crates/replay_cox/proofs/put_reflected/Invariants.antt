-- `replay_cox::put_reflected` meets its contract: at most half the room is taken before each matrix.
use Rattle.lines.specs.Written.{HasHalf}
use Rattle.replay_cox.proofs.put_reflected.Given as goal

abbrev pub invariant-loop-mirror : goal.invariant-loop-mirror
invariant-loop-mirror g l = HasHalf l.out
