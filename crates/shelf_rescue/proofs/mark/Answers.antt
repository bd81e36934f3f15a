-- `shelf_rescue::mark` meets its contract: the cases of the definition.
use native.Mathlib.Omega.{arith}
use Rattle.shelf.proofs.Tested.{accepted_read, refused_read}
use Rattle.shelf_rescue.proofs.Marks.{numbered, first_number, mark_read, mark_unread}
use Rattle.shelf_rescue.proofs.mark.Goals as goal

pub overflow_cast-result-in-Err : goal.overflow_cast-result-in-Err
overflow_cast-result-in-Err c =
    let b = numbered (refused_read c.in-Err.ensures) in
    omega (arith, b.byte, first_number _ c.figures.ensures.2)

pub returns-in-Ok : goal.returns-in-Ok
returns-in-Ok c = mark_read c.no_greater.result (accepted_read c.in-Ok.ensures) c.no_greater.ensures

pub returns-in-Err : goal.returns-in-Err
returns-in-Err c = mark_unread (refused_read c.in-Err.ensures) c.figures.ensures.2
