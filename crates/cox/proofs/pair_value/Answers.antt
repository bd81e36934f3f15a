-- `cox::pair_value` meets its contract: the test of the definition is the code's.
use borrow.Author.Tests.{eq-eqb, ne_eqb}
use Rattle.float.specs.Numbers.{whole}
use Rattle.cox.specs.Matrix.{quotient}
use Rattle.cox.specs.Shown.{pair_value}
use Rattle.cox.proofs.Sums.{two_literal}
use Rattle.cox.proofs.pair_value.Goals as goal

pub returns-then-p-eq0 : goal.returns-then-p-eq0
unfolding pair_value
returns-then-p-eq0 c = simp (eq-eqb _ _ c.if-p-eq0.true) two_literal

pub returns-else-p-eq0 : goal.returns-else-p-eq0
unfolding pair_value quotient whole
returns-else-p-eq0 c = simp (ne_eqb _ _ c.if-p-eq0.false)
