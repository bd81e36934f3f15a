-- `records::put_row` meets its contract. The invariant: the pairs passed are written.
use mathlib.Core.Path.{◌≡◌}
use Rattle.cd.specs.Diagrams.{limit}
use Rattle.filing.specs.Bytes.{blocks, written}
use Rattle.filing.specs.Numberings.{at}
use Rattle.tables.specs.Tables.{entries}
use Rattle.records.proofs.Layouts.{pair_of}
use Rattle.records.proofs.put_row.Given as goal

abbrev pub invariant-loop-i : goal.invariant-loop-i
invariant-loop-i l = l.out ≡ written l.k (blocks (pair_of limit (entries l.t) (at l.p) l.j) l.i) l.initial.out
