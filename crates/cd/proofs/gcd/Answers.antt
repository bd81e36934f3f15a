-- `cd::gcd` meets its contract; Invariants.antt has the argument.
use mathlib.Core.Path.{◌≡◌, sym, ap, ◌∙◌}
use native.Mathlib.Omega.{arith}
use Rattle.filing.specs.Fractions.{gcd as the_gcd}
use Rattle.filing.proofs.Gcd.{gcd_zero, gcd_one, gcd_pos}
use Rattle.cd.proofs.gcd.Goals as goal

pub loop-y-preserved : goal.loop-y-preserved
loop-y-preserved c = sym (gcd_pos c.loop-y.x (omega (arith, c.loop-y-test.true))) ∙ c.loop-y.invariant

pub returns-then-y-eq1 : goal.returns-then-y-eq1
returns-then-y-eq1 c =
    let l = c.loop-y in
    sym (gcd_one l.x) ∙ ap (the_gcd l.x) (sym c.if-y-eq1.true) ∙ l.invariant

pub returns-else-y-eq1 : goal.returns-else-y-eq1
returns-else-y-eq1 c =
    let l = c.loop-y in
    let none : l.y ≡ 0 = omega (arith, c.loop-y-test.false, c.if-y-eq1.false) in
    sym (gcd_zero l.x) ∙ ap (the_gcd l.x) (sym none) ∙ l.invariant
