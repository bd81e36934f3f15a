-- `minimal::meet` meets its contract: where the pair has a rank, it is marked, and one of the laws of a pair that is met says what the labels become.
use mathlib.Core.Path.{◌∙◌}
use native.Mathlib.Omega.{arith}
use borrow.Author.Tests.{lt-ltb}
use lib.Dec.{ltb}
use lib.ListN.{get_or-map}
use Rattle.cd.specs.Diagrams.{none}
use Rattle.cd.specs.declared.Pair.{Pair}
use Rattle.minimal.specs.Labels.{joined_in, Marked}
use Rattle.minimal.proofs.Labelling.{met_lower, met_upper}
use Rattle.minimal.proofs.Links.{marked_turn}
use Rattle.minimal.proofs.meet.Goals as goal
use Rattle.minimal.proofs.meet.Goals.{Then-cd-pair_place-gt0}

edge : (c : Then-cd-pair_place-gt0) → let a = c.args in Marked a.cd.now.count (joined_in a.cd.now.pairs) a.i a.j
edge c =
    let a = c.args in
    let has : Pair → _ = λ (p : Pair). ltb 0 p.rank in
    record {
      first = omega arith;
      other = omega arith;
      marked = rw (← c.pair_place.ensures.0) (get_or-map has a.cd.now.pairs c.pair_place.result none ∙ lt-ltb 0 _ c.if-cd-pair_place-gt0.true);
    }

pub returns-then-a-b : goal.returns-then-a-b
returns-then-a-b c =
    met_lower _ _ _ _ _ c.requires.3 c.requires.0 c.requires.1 (marked_turn _ _) (edge (goal.at.returns-then-a-b c).Then-cd-pair_place-gt0) _ c.if-a-b.true (λ k h. c.relabel.ensures k (omega arith))

pub returns-else-a-b : goal.returns-else-a-b
returns-else-a-b c =
    met_upper _ _ _ _ _ c.requires.3 c.requires.0 c.requires.1 (marked_turn _ _) (edge (goal.at.returns-else-a-b c).Then-cd-pair_place-gt0) _ c.if-a-b.false (λ k h. c.relabel-else-a-b.ensures k (omega arith))
