-- `put` of a diagram meets its contract: the pairs stand behind the nodes.
use mathlib.Core.List.{[]}
use mathlib.Core.Path.{◌≡◌}
use borrow.Author.Rules.{rules}
use lib.ListN.{length}
use Rattle.cd.specs.Diagrams.{limit}
use Rattle.cd.proofs.Arrays.{length_of_image}
use Rattle.lent.proofs.Showing.{numbers_all, nodes_room, behind_nodes, pairs_room, diagram_stored}
use Rattle.lent.proofs.CdShown.put.Goals as goal

pub put_each-requires : goal.put_each-requires
put_each-requires c =
    let nodes : length c.args.self.now.nodes ≡ limit = search (rules, length_of_image) in
    (numbers_all _ nodes c.requires.0, nodes_room _ nodes _ [] c.requires.1)

pub slice_bounds-put_each-count : goal.slice_bounds-put_each-count
slice_bounds-put_each-count c =
    let nodes : length c.args.self.now.nodes ≡ limit = search (rules, length_of_image) in
    behind_nodes _ nodes _ _ c.requires.1 c.put_each.ensures

pub slice_bounds-put_each-start : goal.slice_bounds-put_each-start
slice_bounds-put_each-start c =
    let nodes : length c.args.self.now.nodes ≡ limit = search (rules, length_of_image) in
    let behind = behind_nodes _ nodes _ _ c.requires.1 c.put_each.ensures in
    search rules

pub put_each-requires-2 : goal.put_each-requires-2
put_each-requires-2 c =
    let nodes : length c.args.self.now.nodes ≡ limit = search (rules, length_of_image) in
    (λ k d h. tt, pairs_room _ nodes _ _ c.requires.1 c.put_each.ensures)

pub returns : goal.returns
returns c =
    let nodes : length c.args.self.now.nodes ≡ limit = search (rules, length_of_image) in
    diagram_stored _ nodes _ _ c.requires.1 c.put_each.ensures _ c.put_each-2.ensures
