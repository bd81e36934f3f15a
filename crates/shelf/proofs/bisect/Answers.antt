-- `shelf::bisect` meets its contract: the record is read, then the file's length tested, then the record looked up.
use mathlib.Core.Path.{ap}
use Rattle.std.specs.Prelude.{Err}
use Rattle.std.proofs.lemmas.Result.{err_from_is_err_and}
use Rattle.shelf.specs.Bisects.{unread, no_multiple}
use Rattle.shelf.proofs.Outcomes.{looked_up}
use Rattle.shelf.proofs.Tested.{accepted_read, refused_read}
use Rattle.shelf.proofs.bisect.Goals as goal

pub returns-in_err-read_record : goal.returns-in_err-read_record
returns-in_err-read_record c =
    let p = err_from_is_err_and c.from_residual.result c.from_residual.ensures.1 in
    unread (refused_read c.in_err-read_record.ensures) (rw (p.1, p.2))

pub returns-in_err-n : goal.returns-in_err-n
returns-in_err-n c =
    let p = err_from_is_err_and c.from_residual-in_err-n.result c.from_residual-in_err-n.ensures.1 in
    no_multiple (accepted_read c.in_ok-read_record.ensures) c.in_err-n.ensures.1 (rw (p.1, p.2) (ap Err c.in_err-n.ensures.0))

pub returns : goal.returns
returns c =
    looked_up _ (record { readable = accepted_read c.in_ok-read_record.ensures; whole = c.in_ok-n.ensures; ends = c.place_for-place.ensures }) c.is_at.ensures
