-- `lexicon_c::lexicon_shelf_check` meets its contract.
use borrow.Author.Rules.{rules}
use Rattle.cd.specs.Arrays.{padded}
use Rattle.lexicon_c.proofs.Telling.{tells_mapped}
use Rattle.lexicon_c.proofs.lexicon_shelf_check.Goals as goal

pub returns : goal.returns
unfolding padded
returns c = record { checked = c.check.result; checks = c.check.ensures; tells = tells_mapped _ _ _ c.map.ensures.cases (λ n y p. search rules) c.tell_result.ensures }
