-- `lexicon::read` meets its contract.
use Rattle.std.proofs.lemmas.Result.{err_from_is_err_and}
use Rattle.lexicon.specs.Reads.{refused, accepted}
use Rattle.lexicon.proofs.Answers.{read_few, accepts, refuses}
use Rattle.lexicon.proofs.read.Goals as goal

pub minimal-requires : goal.minimal-requires
minimal-requires c = read_few _ _ _ c.in_ok-cd.ensures

pub returns : goal.returns
returns c =
    let a = accepts _ _ c.in_ok-cd.ensures in
    accepted a.is (c.minimal.ensures a.ns a.es a.held) (cc a.held)

pub returns-in_err-cd : goal.returns-in_err-cd
returns-in_err-cd c =
    let p = err_from_is_err_and c.from_residual.result c.from_residual.ensures.1 in
    refused (refuses _ _ c.in_err-cd.ensures) (rw (p.1, p.2))
