-- `Component::bond` meets its contract: a node that is found is one of the component, and not its lowest.
use Rattle.std.proofs.Common.{arith, rules, tests, ◌≡◌, ◌≢◌, ◌<◌, ap, ◌/◌}
use Rattle.std.proofs.lemmas.Iterator.{first_from_Range}
use Rattle.filing.specs.Numberings.{at}
use Rattle.group_search.proofs.Component.bond.Goals as goal
use Rattle.group_search.proofs.Component.bond.Goals.{In_ok-v}

another : (c : In_ok-v) → let s = c.args.self.now in let v = c.in_ok-v.v in (v < s.count) × (at s.of.now v ≡ s.lowest) × (v ≢ s.lowest)
another c =
    let s = c.args.self.now in
    let found = first_from_Range _ _ _ c.find.result (λ x. (at s.of.now x ≡ s.lowest) × (x ≢ s.lowest)) (λ x. Unit {0}) c.find.ensures.ran (λ x q k. search (rules, tests)) (λ x q k. search (rules, tests)) in
    let (_, inside, own, _) = rw c.in_ok-v.was at found in
    (inside, own.0, own.1)

pub pair_at-requires : goal.pair_at-requires
pair_at-requires c =
    let s = c.args.self.now in
    let (inside, _, _) = another (goal.at.pair_at-requires c).In_ok-v in
    (omega (arith, s.few, s.inside), omega (arith, s.few))

pub returns : goal.returns
returns c =
    let (inside, label, other) = another (goal.at.returns c).In_ok-v in
    (c.in_ok-v.v, inside, label, other, ap (λ z. z / 4294967296) c.pair_at.ensures)
