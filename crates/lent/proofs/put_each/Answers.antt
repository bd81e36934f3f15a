-- `lent::put_each` meets its contract; Invariants.antt has the argument.
use borrow.Author.Rules.{rules}
use Rattle.lent.proofs.Copying.{stored_none, stored_more, stored_room}
use Rattle.lent.proofs.put_each.Goals as goal

pub loop-x-init : goal.loop-x-init
loop-x-init g c = (search rules, stored_none _ _ _)

pub overflow_add-at : goal.overflow_add-at
overflow_add-at g c =
    let room = stored_room _ _ _ _ _ _ _ c.loop-x-test.true c.x-item.is c.loop-x.invariant.1 c.requires.1 in
    search rules

pub slice_bounds-put-end : goal.slice_bounds-put-end
slice_bounds-put-end g c =
    let room = stored_room _ _ _ _ _ _ _ c.loop-x-test.true c.x-item.is c.loop-x.invariant.1 c.requires.1 in
    search rules

pub loop-x-preserved : goal.loop-x-preserved
loop-x-preserved g c = stored_more _ _ _ _ _ _ _ c.loop-x-test.true c.x-item.is c.loop-x.invariant.1 c.requires.1 _ _ c.length-n.ensures c.put.ensures
