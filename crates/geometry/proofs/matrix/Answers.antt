-- `geometry::matrix` meets its contract.
use Rattle.std.proofs.lemmas.Result.{err_from_is_err_and}
use Rattle.lexicon.proofs.Answers.{accepts, refuses}
use Rattle.geometry.proofs.Shapes.{matrix_shown, matrix_refused}
use Rattle.geometry.proofs.matrix.Goals as goal

pub returns-in_err-parse : goal.returns-in_err-parse
returns-in_err-parse c =
    let p = err_from_is_err_and c.from_residual.result c.from_residual.ensures.1 in
    rw (p.1, p.2) (matrix_refused _ _ (refuses _ _ c.in_err-parse.ensures))

pub returns : goal.returns
returns c =
    let a = accepts _ _ c.in_ok-parse.ensures in
    matrix_shown a.ns a.es _ (c.matrix-count.ensures a.ns a.es a.held) _ a.is
