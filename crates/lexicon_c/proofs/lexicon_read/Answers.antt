-- `lexicon_c::lexicon_read` meets its contract: the values of an accepted text are no nan (proofs/Valued.antt).
use Rattle.lexicon_c.proofs.Valued.{text_valued}
use Rattle.lexicon_c.proofs.lexicon_read.Goals as goal

pub show-requires : goal.show-requires
show-requires c = λ x is. text_valued c.read.ensures is
