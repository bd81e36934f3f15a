-- `scan::parse_edge` meets its contract. The invariant: the run from here on, with the parts so far, reads what the run from `at` on reads; a value kept up to
-- 2 ^ 32 is enough for that, and each turn is the run's law at the byte's sort.
use Prim.Native.Nat.{◌≤◌, ◌^◌}
use mathlib.Core.Path.{◌≡◌}
use lib.ListN.{drop}
use Rattle.std.specs.Prelude.{None}
use Rattle.scan.specs.Edges.{empty, run}
use Rattle.scan.specs.Kept.{open_part}
use Rattle.scan.proofs.parse_edge.Given as goal

abbrev pub invariant-loop-i : goal.invariant-loop-i
invariant-loop-i l = ((open_part l.part).value ≤ 2 ^ 32) × (run (drop l.i l.s) l.i l.before (open_part l.part) ≡ run (drop l.at l.s) l.at None empty)
