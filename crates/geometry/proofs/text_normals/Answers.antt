-- `geometry::text_normals` meets its contract.
use Rattle.std.proofs.lemmas.Result.{err_from_is_err_and}
use Rattle.lexicon.proofs.Answers.{accepts, refuses}
use Rattle.geometry.proofs.Shapes.{diagram_normals, diagram_few, normals_shown, normals_refused}
use Rattle.geometry.proofs.text_normals.Goals as goal

pub returns-in_err-parse : goal.returns-in_err-parse
returns-in_err-parse c =
    let p = err_from_is_err_and c.from_residual.result c.from_residual.ensures.1 in
    rw (p.1, p.2) (normals_refused _ _ _ (refuses _ _ c.in_err-parse.ensures))

pub normals-requires : goal.normals-requires
normals-requires c =
    let a = accepts _ _ c.in_ok-parse.ensures in
    diagram_few a.ns a.es _ (c.matrix.ensures a.ns a.es a.held) _ _ a.is

pub returns : goal.returns
returns c =
    let a = accepts _ _ c.in_ok-parse.ensures in
    normals_shown _ _ a.ns a.es _ a.is (diagram_normals a.ns a.es _ (c.matrix.ensures a.ns a.es a.held) _ _ c.normals.ensures)
