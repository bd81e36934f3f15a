-- `blocks::Listed::of` meets its contract; Invariants.antt has the argument.
use borrow.Author.Count.{below_more}
use Rattle.blocks.proofs.ranks.Listed.of.Goals as goal

pub loop-u-preserved : goal.loop-u-preserved
loop-u-preserved c =
    let (long, keeps, has) = c.add_row.ensures in
    (long, below_more _ _ (λ w h v k. keeps _ (c.loop-u.invariant.1 w h v k)) has)
