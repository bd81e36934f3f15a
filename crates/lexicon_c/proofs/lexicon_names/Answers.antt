-- `lexicon_c::lexicon_names` meets its contract: there are no more components than nodes.
use mathlib.Core.Path.{subst}
use Rattle.lexicon_names.specs.NamesText.{NamesText}
use Rattle.lexicon_names.proofs.OneAnswer.{names_few}
use Rattle.lexicon_c.proofs.lexicon_names.Goals as goal

pub show-requires : goal.show-requires
show-requires c = λ g is. names_few (subst (NamesText _ _) is c.names.ensures)
