-- `group_search::groups` meets its contract; Invariants.antt has the argument.
use native.Mathlib.Omega.{arith}
use Rattle.group_search.proofs.Listing.{stands_first, stands_passed, stands_listed, names_listed, names_refused, table_mirrored}
use Rattle.group_search.proofs.groups.Goals as goal
use Rattle.group_search.proofs.groups.Goals.{then-of-c+in-Some, else-of-c}

pub loop-c-init : goal.loop-c-init
loop-c-init c = stands_first c.none-out.ensures

pub invariant_of-component : goal.invariant_of-component
invariant_of-component c = record {
  few = c.requires;
  inside = c.loop-c-test.true;
  own = c.if-of-c.true;
  counted = c.label_count.ensures;
  mirrored = table_mirrored c.args.cd.pairs c.pairs_of-pairs.result c.requires c.pairs_of-pairs.ensures;
}

pub returns-in_default : goal.returns-in_default
returns-in_default c = λ ns es held d.
    names_refused _ ns es held d _ _ c.pairs_of-pairs.ensures (c.components-of.ensures ns es held) c.loop-c-test.true c.loop-c.invariant c.if-of-c.true c.in_default.ensures

pub loop-c-preserved : goal.loop-c-preserved
loop-c-preserved c =
    elim c.if-of-c.branch [
      | then-of-c+in-Some w ↦ stands_listed c.loop-c.invariant (omega arith) w.if-of-c.true w.in-Some.ensures w.order.ensures w.out-is
      | else-of-c w ↦ stands_passed c.loop-c.invariant w.if-of-c.false w.out-is
    ]

pub returns : goal.returns
returns c = λ ns es held d.
    names_listed _ ns es held d _ _ c.pairs_of-pairs.ensures (c.components-of.ensures ns es held) c.loop-c-test.false c.loop-c.auto.c-end c.loop-c.invariant
