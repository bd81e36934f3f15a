-- `shelf::find` meets its contract: what bisection finds, once the file is checked.
use mathlib.Core.Path.{refl}
use Rattle.std.proofs.lemmas.Result.{err_from_is_err_and}
use Rattle.shelf.specs.Finds.{refused, unsound}
use Rattle.shelf.proofs.Bisected.{bisects_finds}
use Rattle.shelf.proofs.Outcomes.{bisected_readable, bisected_refused, checked_right, checked_wrong}
use Rattle.shelf.proofs.find.Goals as goal

pub returns-in_err-found : goal.returns-in_err-found
returns-in_err-found c =
    let p = err_from_is_err_and c.from_residual.result c.from_residual.ensures.1 in
    rw (p.1, p.2) (bisected_refused c.in_err-found.ensures refl)

pub returns-in_err-check : goal.returns-in_err-check
returns-in_err-check c =
    let p = err_from_is_err_and c.from_residual-in_err-check.result c.from_residual-in_err-check.ensures.1 in
    refused (unsound (bisected_readable c.in_ok-found.ensures refl) (checked_wrong _ c.in_err-check.ensures refl)) (rw (p.1, p.2))

pub returns : goal.returns
returns c = bisects_finds (checked_right c.in_ok-check.ensures refl) c.in_ok-found.ensures
