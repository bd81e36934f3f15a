-- `generator::values` meets its contract: each place holds the value of its node.
use mathlib.Core.Path.{◌≡◌, sym, ap, ◌∙◌}
use native.Mathlib.Omega.{arith}
use borrow.Author.Rules.{rules}
use lib.ListN.{length, get_or}
use Rattle.std.proofs.lemmas.List.{same_lists}
use Rattle.cd.specs.Diagrams.{limit, place}
use Rattle.cd.specs.declared.Node.TheVariants.{Unringed}
use Rattle.cd.proofs.Stored.{node_held}
use Rattle.cox.proofs.Flats.{length_flat, flat_at}
use Rattle.generator.specs.Generator.{value, values}
use Rattle.generator.proofs.values.Goals as goal

pub returns : goal.returns
unfolding values value
returns c ns es e =
    let long : length c.map.result ≡ limit = c.map.ensures.items.long in
    same_lists _ _ (long ∙ sym (length_flat limit (values ns))) (λ i d h.
    let called = c.map.ensures.items.at i (place Unringed) d (omega arith) in
    let told : get_or c.map.result i d ≡ value (get_or c.args.cd.nodes i (place Unringed)).node = search rules in
    told ∙ ap (λ p. value p.node) (node_held _ ns es e _ i (omega arith)) ∙ sym (flat_at limit (values ns) d i (omega arith)))
