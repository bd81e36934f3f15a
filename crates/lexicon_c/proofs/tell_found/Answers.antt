-- `lexicon_c::tell_found` meets its contract.
use borrow.Author.Rules.{rules}
use Rattle.cd.specs.Arrays.{padded}
use Rattle.lent.proofs.Showing.{flag}
use Rattle.lexicon_c.proofs.Telling.{tells_mapped}
use Rattle.lexicon_c.proofs.tell_found.Goals as goal

pub returns : goal.returns
unfolding padded
returns c = tells_mapped _ _ _ c.map.ensures.cases (λ f y p. let q = flag f.present in search rules) c.tell_result.ensures
