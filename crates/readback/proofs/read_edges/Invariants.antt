-- `readback::read_edges` meets its contract. The invariant: the edges of the first j places are stored.
use Rattle.cd.specs.Diagrams.{limit}
use Rattle.readback.specs.Spelled.{edges_to}
use Rattle.readback.specs.Steps.{Shows}
use Rattle.readback.proofs.read_edges.Given as goal

abbrev pub invariant-loop-j : goal.invariant-loop-j
invariant-loop-j l = Shows (edges_to limit l.s l.j) l.out
