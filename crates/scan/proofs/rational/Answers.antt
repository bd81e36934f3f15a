-- `scan::rational` meets its contract: the den of what `is_edge` takes is above 0.
use mathlib.Core.Path.{sym, ◌∙◌}
use Rattle.cd.proofs.LowestTerms.{den_positive}
use Rattle.scan.proofs.rational.Goals as goal

pub reduced-requires : goal.reduced-requires
reduced-requires c = den_positive _ (sym c.is_edge.ensures ∙ c.if-is_edge.true)
