-- `blocks::Listed::add_row` meets its contract. The invariant: the row's numbers below v are listed, and what was listed is.
use Prim.Native.Nat.{ℕ, ◌+◌, ◌≤◌, ◌<◌}
use lib.ListN.{length}
use Rattle.std.specs.List.{Contains}
use Rattle.cd.specs.Diagrams.{limit}
use Rattle.blocks.specs.Ranks.{table}
use Rattle.blocks.proofs.ranks.Listed.add_row.Given as goal

abbrev pub invariant-loop-v : goal.invariant-loop-v
invariant-loop-v l =
    (length l.self ≤ length l.initial.self + l.v)
    × ((y : ℕ) → Contains l.initial.self y → Contains l.self y)
    × ((w : ℕ) → w < l.v → Contains l.self (table limit l.t.pairs l.u w))
