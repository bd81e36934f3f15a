-- `cox::families::family_matrix` meets its contract.
use mathlib.Core.Path.{ap}
use borrow.Author.Rules.{rules}
use Rattle.float.specs.Numbers.{whole}
use Rattle.cox.specs.Families.{family_matrix}
use Rattle.cox.specs.Shown.{family_of}
use Rattle.cox.specs.declared.Cox.{Cox}
use Rattle.cox.proofs.families.family_matrix.Goals as goal

pub returns : goal.returns
unfolding family_of family_matrix whole
returns c = ap {B = Cox} (λ z. record { at = z; count = c.args.size }) (c.square.ensures (family_matrix c.args.letter) (λ i j x h l p. search rules))
