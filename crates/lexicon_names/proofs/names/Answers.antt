-- `lexicon_names::names` meets its contract: the diagram of an accepted text can be filed, and `group_search` tells its components.
use Rattle.std.proofs.lemmas.Result.{err_from_is_err_and}
use Rattle.lexicon.proofs.Answers.{read_few, accepts, refuses}
use Rattle.lexicon.proofs.Fileable.{accepted_kept}
use Rattle.lexicon_names.specs.NamesText.{refused, told}
use Rattle.lexicon_names.proofs.names.Goals as goal

pub groups-requires : goal.groups-requires
groups-requires c = read_few _ _ _ c.in_ok-cd.ensures

pub returns-in_err-cd : goal.returns-in_err-cd
returns-in_err-cd c =
    let p = err_from_is_err_and c.from_residual.result c.from_residual.ensures.1 in
    refused (refuses _ _ c.in_err-cd.ensures) (rw (p.1, p.2))

pub returns : goal.returns
returns c =
    let a = accepts _ _ c.in_ok-cd.ensures in
    told a.is (c.groups.ensures a.ns a.es a.held (accepted_kept _ _ a.ns a.es a.is))
