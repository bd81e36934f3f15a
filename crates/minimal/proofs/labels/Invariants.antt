-- `minimal::labels` meets its contract. The invariant: the rows below j are met.
use Rattle.minimal.specs.Labels.{Met}
use Rattle.minimal.proofs.labels.Given as goal

abbrev pub invariant-loop-j : goal.invariant-loop-j
invariant-loop-j l = Met l.cd l.j 0 l.of
