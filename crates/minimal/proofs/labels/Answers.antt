-- `minimal::labels` meets its contract; Invariants.antt has the argument.
use mathlib.Core.Path.{◌≡◌}
use native.Mathlib.Omega.{arith}
use Rattle.minimal.proofs.Labelling.{none_met, all_met}
use Rattle.minimal.proofs.Links.{marked_turn}
use Rattle.minimal.proofs.labels.Goals as goal

pub loop-j-init : goal.loop-j-init
loop-j-init c = none_met _ _ _ (λ k h. let r = c.from_fn-of.ensures.items.at k 0 (omega arith) in grind (arith, r.2))

pub returns : goal.returns
returns c =
    let l = c.loop-j in
    let end : l.j ≡ c.args.cd.now.count = omega arith in
    all_met _ _ _ (marked_turn _ _) (λ i j e. e.other) (rw end at l.invariant)
