-- `records::put` meets its contract. The invariant: the bytes passed are written.
use mathlib.Core.Path.{◌≡◌}
use lib.ListN.{length, take}
use Rattle.filing.specs.Bytes.{written}
use Rattle.records.proofs.put.Given as goal

abbrev pub invariant-loop-i : goal.invariant-loop-i
invariant-loop-i l = (length l.out ≡ length l.initial.out) × (l.out ≡ written l.at (take l.i l.from) l.initial.out)
