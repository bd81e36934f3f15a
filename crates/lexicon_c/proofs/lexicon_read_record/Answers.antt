-- `lexicon_c::lexicon_read_record` meets its contract: the values that are read back are no nan (proofs/Valued.antt).
use Rattle.lexicon_c.proofs.Valued.{record_valued}
use Rattle.lexicon_c.proofs.lexicon_read_record.Goals as goal

pub show-requires : goal.show-requires
show-requires c = λ x is. record_valued c.read_record.ensures is
