-- `blocks::Trial::grow` meets its contract. The invariant: the row of place j + 1 has its blocks below w, and the rows up to place j are as they were.
use mathlib.Core.Path.{◌≡◌}
use Prim.Native.Nat.{◌+◌, ◌*◌}
use lib.ListN.{length}
use Rattle.cd.specs.Diagrams.{limit}
use Rattle.filing.specs.Numberings.{at}
use Rattle.filing.specs.Sequences.{Agree}
use Rattle.blocks.specs.Blocks.{packed, Keyed}
use Rattle.blocks.specs.Ranks.{table}
use Rattle.blocks.proofs.Trial.grow.Given as goal

abbrev pub invariant-loop-w : goal.invariant-loop-w
invariant-loop-w l =
    let e = table limit l.r.pairs in
    let p = at l.fn.self.nodes in
    (l.self.nodes ≡ l.fn.self.nodes)
    × (length l.self.keys ≡ limit * limit)
    × Keyed limit e l.r.count l.j p l.self.keys
    × Agree l.w (λ i. at l.self.keys (limit * (l.j + 1) + i)) (λ i. packed (λ m. e (p m) i) (l.j + 1))
