-- `lent::fit` meets its contract: too short, shown (proofs/Showing.antt).
use native.Mathlib.Omega.{arith}
use Rattle.lent.proofs.Showing.{fit_short, fit_shown}
use Rattle.lent.proofs.fit.Goals as goal

pub returns-then-out-length : goal.returns-then-out-length
returns-then-out-length g c = λ fs t. fit_short _ _ _ (omega (arith, c.length.ensures, c.if-out-length.true))

pub returns : goal.returns
returns g c = λ fs t. fit_shown _ _ _ _ _ _ _ (omega (arith, c.length.ensures, c.if-out-length.false)) c.put.ensures t
