-- `put` of the components meets its contract: zeros stand behind them.
use mathlib.Core.List.{[]}
use mathlib.Core.Path.{◌≡◌}
use Prim.Native.Nat.{◌-◌, ◌*◌}
use borrow.Author.Rules.{rules}
use lib.ListN.{length, replicate}
use Rattle.cd.specs.Diagrams.{limit}
use Rattle.cd.proofs.Arrays.{length_of_image}
use Rattle.lent.specs.Shown.{names_length}
use Rattle.lent.proofs.Showing.{groups_room, behind_groups, names_stored}
use Rattle.lent.proofs.GroupsShown.put.Goals as goal

pub put_each-requires : goal.put_each-requires
put_each-requires c =
    let at : length c.args.self.now.at ≡ limit = search (rules, length_of_image) in
    (λ k d h. tt, groups_room _ at c.requires.0 _ [] c.requires.1)

pub slice_bounds-fill-end : goal.slice_bounds-fill-end
slice_bounds-fill-end c =
    let at : length c.args.self.now.at ≡ limit = search (rules, length_of_image) in
    let behind = behind_groups _ at c.requires.0 _ _ c.requires.1 c.put_each.ensures in
    search rules

pub returns : goal.returns
returns c =
    let at : length c.args.self.now.at ≡ limit = search (rules, length_of_image) in
    let behind = behind_groups _ at c.requires.0 _ _ c.requires.1 c.put_each.ensures in
    let zeros : c.fill.new.self ≡ replicate (names_length - 4 * c.args.self.now.count) 0 = search rules in
    names_stored _ at c.requires.0 _ _ c.requires.1 c.put_each.ensures _ zeros
