-- `node::closing` meets its contract: `position` finds the first `)` from `at` on, if there is one.
use mathlib.Core.Path.{◌≡◌, refl, sym, ◌∙◌}
use lib.ListN.{drop}
use Rattle.std.proofs.Common.{rules, tests}
use Rattle.std.proofs.lemmas.Iterator.{YieldsList-from_slice}
use Rattle.std.proofs.lemmas.Iterator.Search.{position_from_yields_List}
use Rattle.std.specs.List.{position}
use Rattle.scan.specs.Bytes.{is}
use Rattle.scan.proofs.First.{slice_rest, first_some, first_none}
use Rattle.node.specs.Nodes.{closing}
use Rattle.node.proofs.closing.Goals as goal
use Rattle.node.proofs.closing.Goals.{After-position}

found : (c : After-position) → c.position.result ≡ position (is ")") (drop c.args.at c.args.s.now)
found c =
    position_from_yields_List (is ")") _ _ c.position.result c.position.ensures.ran (YieldsList-from_slice _ (c.iter.ensures.rest ∙ slice_rest c.args.s.now c.args.at)) (λ x b q k. search (rules, tests))

pub returns-in-Some : goal.returns-in-Some
unfolding closing
returns-in-Some c =
    first_some (is ")") closing (λ i. refl) (λ b bs i. refl) _ _ c.requires _ (sym (found (goal.at.returns-in-Some c).After-position) ∙ c.in-Some.is)

pub returns-in-None : goal.returns-in-None
unfolding closing
returns-in-None c =
    first_none (is ")") closing (λ i. refl) (λ b bs i. refl) _ _ c.requires (sym (found (goal.at.returns-in-None c).After-position) ∙ c.in-None.is)
