-- `lent::show_one` meets its contract (proofs/Showing.antt).
use Rattle.lent.proofs.Showing.{lends_fit}
use Rattle.lent.proofs.show_one.Goals as goal

pub returns : goal.returns
returns g c = lends_fit _ _ _ _ _ (c.fit.ensures _ c.told.ensures) c.tell_result.ensures
