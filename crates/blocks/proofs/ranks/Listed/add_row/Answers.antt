-- `blocks::Listed::add_row` meets its contract; Invariants.antt has the argument.
use native.Mathlib.Omega.{arith}
use borrow.Author.Count.{below_more}
use Rattle.blocks.proofs.ranks.Listed.add_row.Goals as goal

pub loop-v-preserved : goal.loop-v-preserved
loop-v-preserved c =
    let l = c.loop-v in
    let (long, keeps, has) = c.add.ensures in
    (omega arith, λ y h. keeps y (l.invariant.1 y h), below_more _ _ (λ w h. keeps _ (l.invariant.2 w h)) (rw c.pair.ensures at has))
