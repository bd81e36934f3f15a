-- `readback::read_row` meets its contract. The invariant: the edges of the places before j, and those of j with the first i, are stored. A turn is `edge_read` or
-- `two_read` of proofs/StoredEdges.antt.
use mathlib.Core.List.{◌++◌}
use Rattle.cd.specs.Diagrams.{limit}
use Rattle.readback.specs.Spelled.{row_to, edges_to}
use Rattle.readback.specs.Steps.{Shows}
use Rattle.readback.proofs.read_row.Given as goal

abbrev pub invariant-loop-i : goal.invariant-loop-i
invariant-loop-i l = Shows (edges_to limit l.s l.j ++ row_to limit l.s l.j l.i) l.out
