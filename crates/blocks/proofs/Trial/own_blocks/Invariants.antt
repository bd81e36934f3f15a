-- `blocks::Trial::own_blocks` meets its contract. The invariant: the places below i have their blocks.
use mathlib.Core.Path.{◌≡◌}
use Prim.Native.Nat.{◌+◌, ◌*◌}
use lib.ListN.{length}
use Rattle.cd.specs.Diagrams.{limit}
use Rattle.filing.specs.Numberings.{at}
use Rattle.filing.specs.Sequences.{Agree}
use Rattle.blocks.proofs.Trial.own_blocks.Given as goal

abbrev pub invariant-loop-i : goal.invariant-loop-i
invariant-loop-i l = (length l.tops ≡ limit) × Agree l.i (at l.tops) (λ k. at l.self.keys (limit * k + at l.self.nodes k))
