-- `lexicon_c::lexicon_shelf_add` meets its contract.
use borrow.Author.Rules.{rules}
use Rattle.cd.specs.Arrays.{padded}
use Rattle.lexicon_c.proofs.Telling.{tells_mapped}
use Rattle.lexicon_c.proofs.lexicon_shelf_add.Goals as goal

pub returns : goal.returns
unfolding padded
returns c = record { added = c.add.result; adds = c.add.ensures; tells = tells_mapped _ _ _ c.map.ensures.cases (λ x y p. search rules) c.tell_result.ensures }
