-- `replay_shelf::spell_places` meets its contract. The invariant: the places so far fit the buffer, which keeps its length.
use Rattle.std.proofs.Common.{◌≤◌, length}
use Rattle.replay_shelf.proofs.spell_places.Given as goal

abbrev pub invariant-loop-rest : goal.invariant-loop-rest
invariant-loop-rest l = l.at ≤ length l.bytes

abbrev pub decreases-loop-rest : goal.decreases-loop-rest
decreases-loop-rest l = length l.rest
