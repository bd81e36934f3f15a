-- `records::put_nodes` meets its contract. The invariant: the nodes passed are written.
use mathlib.Core.Path.{◌≡◌}
use Rattle.filing.specs.Bytes.{written}
use Rattle.filing.specs.Numberings.{at}
use Rattle.tables.specs.Tables.{entries, table_nodes}
use Rattle.records.proofs.put_nodes.Given as goal

abbrev pub invariant-loop-i : goal.invariant-loop-i
invariant-loop-i l = l.out ≡ written 1 (table_nodes (entries l.t) (at l.p) l.i) l.initial.out
