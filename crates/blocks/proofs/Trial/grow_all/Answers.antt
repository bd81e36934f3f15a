-- `blocks::Trial::grow_all` meets its contract; Invariants.antt has the argument.
use mathlib.Core.Path.{refl}
use Prim.Native.Nat.{ℕ, ◌*◌}
use lib.ListN.{length-replicate}
use Rattle.cd.specs.Diagrams.{limit}
use Rattle.filing.specs.Numberings.{at}
use Rattle.blocks.specs.Ranks.{table}
use Rattle.blocks.proofs.Blocks.{keyed_none}
use Rattle.blocks.proofs.Trial.grow_all.Goals as goal

pub loop-j-init : goal.loop-j-init
loop-j-init c =
    let r = c.args.r.now in
    let p = c.args.self.now.nodes in
    rw c.requires.1 (refl, length-replicate {A = ℕ} (limit * limit) 0, keyed_none (table limit r.pairs) r.count (at p))
