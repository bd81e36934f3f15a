-- `blocks::Listed::of` meets its contract. The invariant: the numbers of the rows below u are listed.
use Prim.Native.Nat.{ℕ, ◌*◌, ◌≤◌, ◌<◌}
use lib.ListN.{length}
use Rattle.std.specs.List.{Contains}
use Rattle.cd.specs.Diagrams.{limit}
use Rattle.blocks.specs.Ranks.{table}
use Rattle.blocks.proofs.ranks.Listed.of.Given as goal

abbrev pub invariant-loop-u : goal.invariant-loop-u
invariant-loop-u l = (length l.list ≤ limit * l.u) × ((w : ℕ) → w < l.u → (v : ℕ) → v < l.t.count → Contains l.list (table limit l.t.pairs w v))
