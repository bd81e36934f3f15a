-- `minimal::meet_row` meets its contract. The invariant: of row j the pairs below i are met.
use Rattle.minimal.specs.Labels.{Met}
use Rattle.minimal.proofs.meet_row.Given as goal

abbrev pub invariant-loop-i : goal.invariant-loop-i
invariant-loop-i l = Met l.cd l.j l.i l.of
