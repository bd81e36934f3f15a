-- `cd::gcd` meets its contract: Euclid's step keeps the greatest common divisor, which is known where the second number is 0 or 1.
use mathlib.Core.Path.{◌≡◌}
use Rattle.filing.specs.Fractions.{gcd as the_gcd}
use Rattle.cd.proofs.gcd.Given as goal

abbrev pub invariant-loop-y : goal.invariant-loop-y
invariant-loop-y l = the_gcd l.x l.y ≡ the_gcd l.a l.b

abbrev pub decreases-loop-y : goal.decreases-loop-y
decreases-loop-y l = l.y
