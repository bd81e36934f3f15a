-- `geometry::reflections` meets its contract.
use Rattle.std.proofs.lemmas.Result.{err_from_is_err_and}
use Rattle.geometry.proofs.Shapes.{mirrored, mirrored_few, reflections_shown, reflections_refused}
use Rattle.geometry.proofs.reflections.Goals as goal

pub returns-in_err-mirrors : goal.returns-in_err-mirrors
returns-in_err-mirrors c =
    let p = err_from_is_err_and c.from_residual.result c.from_residual.ensures.1 in
    rw (p.1, p.2) (reflections_refused _ _ c.in_err-mirrors.ensures)

pub of-requires : goal.of-requires
of-requires c = mirrored_few _ _ _ (mirrored _ _ c.in_ok-mirrors.ensures)

pub returns : goal.returns
returns c =
    let m = mirrored _ _ c.in_ok-mirrors.ensures in
    reflections_shown _ _ _ m (c.of.ensures m.fits.square m.fits.held)
