-- `put` of a generator meets its contract.
use mathlib.Core.List.{[], ◌∷◌}
use mathlib.Core.Path.{◌≡◌, ap, ◌∙◌}
use borrow.Author.Rules.{rules}
use lib.ListN.{length, set}
use Rattle.cd.specs.Diagrams.{limit}
use Rattle.lent.proofs.Copying.{sets_behind}
use Rattle.lent.proofs.GeneratorShown.put.Goals as goal

pub returns : goal.returns
returns c =
    let g = c.args.self.now in
    let long : length g.at ≡ limit = search rules in
    ap (λ o. set o limit g.radius) c.put_doubles.ensures ∙ sets_behind c.args.out.now g.at (g.radius ∷ []) 0 limit long
