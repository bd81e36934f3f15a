-- `blocks::Trial::grow_all` meets its contract. The invariant: the blocks up to place j are there.
use mathlib.Core.Path.{◌≡◌}
use Prim.Native.Nat.{◌*◌}
use lib.ListN.{length}
use Rattle.cd.specs.Diagrams.{limit}
use Rattle.filing.specs.Numberings.{at}
use Rattle.blocks.specs.Blocks.{Keyed}
use Rattle.blocks.specs.Ranks.{table}
use Rattle.blocks.proofs.Trial.grow_all.Given as goal

abbrev pub invariant-loop-j : goal.invariant-loop-j
invariant-loop-j l =
    (l.self.nodes ≡ l.fn.self.nodes) × (length l.self.keys ≡ limit * limit) × Keyed limit (table limit l.r.pairs) l.r.count l.j (at l.fn.self.nodes) l.self.keys
