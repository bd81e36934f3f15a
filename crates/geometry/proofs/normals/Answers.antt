-- `geometry::normals` meets its contract: the columns, or the column that is refused.
use Rattle.std.proofs.lemmas.Result.{err_from_is_err_and}
use Rattle.geometry.proofs.Shapes.{columns_shown, crowded_shown}
use Rattle.geometry.proofs.normals.Goals as goal

pub returns-in_err-at : goal.returns-in_err-at
returns-in_err-at c =
    let p = err_from_is_err_and c.from_residual.result c.from_residual.ensures.1 in
    λ e h. rw (p.1, p.2) (crowded_shown _ _ _ (c.in_err-at.ensures e h))

pub returns : goal.returns
returns c = λ e h. columns_shown _ _ _ (c.in_ok-at.ensures e h)
