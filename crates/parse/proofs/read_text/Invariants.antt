-- `parse::read_text` meets its contract. The invariant of the loop over the text is `Due` of proofs/Turns.antt, with what is left of the length as its
-- measure. At its end the answer is that of the queue joined (`Ended`); of the loop that joins, the invariant is `Midway` of proofs/JoinLaws.antt: the
-- edges stored so far stand in their places, and the rest of the queue joined after them is the whole queue joined.
use Prim.Native.Nat.{◌≤◌, ◌-◌}
use lib.ListN.{length}
use Rattle.parse.proofs.JoinLaws.{Midway}
use Rattle.parse.proofs.Turns.{Due, Ended, waits}
use Rattle.parse.proofs.read_text.Given as goal

abbrev pub invariant-loop-read : goal.invariant-loop-read
invariant-loop-read l = Due l.wish l.s l.start l.nodes l.count l.queue l.at l.prev l.edge

abbrev pub decreases-loop-read : goal.decreases-loop-read
decreases-loop-read l = length l.s - l.at

abbrev pub invariant-loop-k : goal.invariant-loop-k
invariant-loop-k l = (l.edges ≤ l.k) × Midway l.count (waits l.queue) l.pairs l.edges l.k × Ended l.wish l.s l.start l.nodes l.count l.queue
