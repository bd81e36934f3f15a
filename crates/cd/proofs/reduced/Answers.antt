-- `cd::reduced` meets its contract: the divisor of den and the remainder is that of num and den, and above 0; with a remainder of 0 num and den are a whole
-- number, with one of 1 they have nothing to divide.
use mathlib.Core.Path.{◌≡◌, sym, ap, ◌∙◌}
use Rattle.filing.specs.Fractions.{gcd as the_gcd, lowest}
use Rattle.filing.proofs.Gcd.{gcd_one, gcd_pos, gcd_positive, lowest_divided, lowest_coprime}
use Rattle.cd.specs.Edges.{fraction, edge_of, reduced}
use Rattle.cd.proofs.reduced.Goals as goal
use Rattle.cd.proofs.reduced.Goals.{After-gcd-g}

divisor : (g : After-gcd-g) → g.gcd-g.result ≡ the_gcd g.args.e.num g.args.e.den
divisor g = g.gcd-g.ensures ∙ sym (gcd_pos g.args.e.num g.requires)

pub nonzero_div-result-in_default : goal.nonzero_div-result-in_default
nonzero_div-result-in_default c =
    rw (divisor (goal.at.nonzero_div-result-in_default c).After-gcd-g) (gcd_positive _ _ c.requires)

pub nonzero_div-result-in_default-2 : goal.nonzero_div-result-in_default-2
nonzero_div-result-in_default-2 c =
    rw (divisor (goal.at.nonzero_div-result-in_default-2 c).After-gcd-g) (gcd_positive _ _ c.requires)

pub returns-in-0 : goal.returns-in-0
unfolding reduced
returns-in-0 c = sym (ap edge_of (lowest_divided (fraction c.args.e) c.requires c.in-0.is))

pub returns-in-1 : goal.returns-in-1
unfolding reduced
returns-in-1 c =
    let e = c.args.e in
    sym (ap edge_of (lowest_coprime (fraction e) (gcd_pos e.num c.requires ∙ ap (the_gcd e.den) c.in-1.is ∙ gcd_one e.den)))

pub returns-in_default : goal.returns-in_default
unfolding reduced lowest
returns-in_default c = rw (divisor (goal.at.returns-in_default c).After-gcd-g)
