-- `blocks::Ranks::fill` meets its contract. The invariant: the rows below u have their ranks, and all numbers are below the base. The list has the numbers of
-- all pairs, so ranks stand as they do.
use mathlib.Core.Path.{◌≡◌}
use Prim.Native.Nat.{ℕ, ◌<◌}
use lib.Dec.{ltb}
use Rattle.std.specs.List.{count_by}
use Rattle.cd.specs.Diagrams.{limit}
use Rattle.filing.specs.Numberings.{at}
use Rattle.filing.specs.Sequences.{Agree}
use Rattle.blocks.specs.Blocks.{base}
use Rattle.blocks.specs.Ranks.{table}
use Rattle.blocks.proofs.ranks.Ranks.fill.Given as goal

abbrev pub invariant-loop-u : goal.invariant-loop-u
invariant-loop-u l =
    (l.self.count ≡ l.t.count)
    × ((k : ℕ) → at l.self.pairs k < base)
    × ((w : ℕ) → w < l.u → Agree l.t.count (table limit l.self.pairs w) (λ v. count_by (λ y. ltb y (table limit l.t.pairs w v)) l.list))
