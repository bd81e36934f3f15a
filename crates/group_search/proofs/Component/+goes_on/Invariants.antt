-- The cycle of calls {goes_on} meets its contract: the measure is what is left of the places, the loop's invariant `Tried` of Placing.antt.
use Prim.Native.Nat.{◌-◌}
use Rattle.cd.specs.Diagrams.{limit}
use Rattle.group_search.proofs.Placing.{Tried}
use Rattle.group_search.proofs.Component.+goes_on.Given as goal

abbrev pub decreases-goes_on : goal.decreases-goes_on
decreases-goes_on l = l.self.now.size - l.k

abbrev pub invariant-loop-v : goal.invariant-loop-v
invariant-loop-v l = Tried limit l.self.pairs.now l.self.of.now l.self.count l.self.lowest l.x l.self.size l.k l.p l.v
