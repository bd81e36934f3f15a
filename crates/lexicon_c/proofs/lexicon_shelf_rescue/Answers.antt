-- `lexicon_c::lexicon_shelf_rescue` meets its contract.
use borrow.Author.Rules.{rules}
use Rattle.cd.specs.Arrays.{padded}
use Rattle.lexicon_c.proofs.Telling.{tells_mapped}
use Rattle.lexicon_c.proofs.lexicon_shelf_rescue.Goals as goal

pub returns : goal.returns
unfolding padded
returns c = record { rescued = c.rescue.result; rescues = c.rescue.ensures; tells = tells_mapped _ _ _ c.map.ensures.cases (λ x y p. search rules) c.tell_result.ensures }
