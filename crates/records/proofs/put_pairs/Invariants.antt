-- `records::put_pairs` meets its contract. The invariant: the rows passed are written, and k is where the next one goes.
use mathlib.Core.Path.{◌≡◌}
use Prim.Native.Nat.{◌+◌}
use lib.ListN.{length}
use Rattle.cd.specs.Diagrams.{limit}
use Rattle.filing.specs.Bytes.{written}
use Rattle.filing.specs.Numberings.{at}
use Rattle.filing.specs.Records.{nodes_length}
use Rattle.tables.specs.Tables.{entries, table_pairs}
use Rattle.records.proofs.put_pairs.Given as goal

abbrev pub invariant-loop-j : goal.invariant-loop-j
invariant-loop-j l =
    (l.k ≡ 1 + nodes_length limit + length (table_pairs limit (entries l.t) (at l.p) l.j))
    × (l.out ≡ written (1 + nodes_length limit) (table_pairs limit (entries l.t) (at l.p) l.j) l.initial.out)
