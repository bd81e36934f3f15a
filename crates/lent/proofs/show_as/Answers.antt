-- `lent::show_as` meets its contract (proofs/Showing.antt).
use Rattle.lent.proofs.Showing.{lends_fit, lends_shown, lends_refusal}
use Rattle.lent.proofs.show_as.Goals as goal

pub returns-in-Ok : goal.returns-in-Ok
returns-in-Ok g c = λ fs t. rw c.in-Ok.is (lends_shown _ _ _ _ _ (lends_fit _ _ _ _ _ (c.fit.ensures fs t) c.tell_result.ensures))

pub returns-in-Err : goal.returns-in-Err
returns-in-Err g c = λ fs t. rw c.in-Err.is (lends_refusal _ _ _ _ c.tell_result-in-Err.ensures)
