-- `geometry::family_normals` meets its contract.
use Rattle.std.proofs.lemmas.Result.{err_from_is_err_and}
use Rattle.geometry.proofs.Shapes.{family_few, family_normals_shown, family_normals_refused}
use Rattle.geometry.proofs.family_normals.Goals as goal

pub returns-in_err-family : goal.returns-in_err-family
returns-in_err-family c =
    let p = err_from_is_err_and c.from_residual.result c.from_residual.ensures.1 in
    rw (p.1, p.2) (family_normals_refused _ _ _ _ c.in_err-family.ensures)

pub normals-requires : goal.normals-requires
normals-requires c = family_few _ _ _ c.in_ok-family.ensures

pub returns : goal.returns
returns c = family_normals_shown _ _ _ _ _ c.in_ok-family.ensures c.normals.ensures
