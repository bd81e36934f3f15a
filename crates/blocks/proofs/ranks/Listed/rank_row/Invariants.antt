-- `blocks::Listed::rank_row` meets its contract. The invariant: the row has its ranks below v, the rows before it are as they were, and all numbers are below
-- the base.
use mathlib.Core.Path.{◌≡◌}
use Prim.Native.Nat.{ℕ, ◌+◌, ◌*◌, ◌<◌}
use lib.Dec.{ltb}
use lib.ListN.{length}
use Rattle.std.specs.List.{count_by}
use Rattle.cd.specs.Diagrams.{limit}
use Rattle.filing.specs.Numberings.{at}
use Rattle.filing.specs.Sequences.{Agree}
use Rattle.blocks.specs.Blocks.{base}
use Rattle.blocks.specs.Ranks.{table}
use Rattle.blocks.proofs.ranks.Listed.rank_row.Given as goal

abbrev pub invariant-loop-v : goal.invariant-loop-v
invariant-loop-v l =
    (length l.out ≡ limit * limit)
    × ((k : ℕ) → at l.out k < base)
    × Agree (limit * l.u) (at l.out) (at l.initial.out)
    × Agree l.v (λ w. at l.out (limit * l.u + w)) (λ w. count_by (λ y. ltb y (table limit l.t.pairs l.u w)) l.self)
