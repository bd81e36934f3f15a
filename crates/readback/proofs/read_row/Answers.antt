-- `readback::read_row` meets its contract; Invariants.antt has the argument.
use mathlib.Core.Path.{◌≡◌, sym, ap, ◌∙◌}
use Prim.Native.Nat.{◌*◌, ◌≤◌}
use native.Mathlib.Omega.{arith}
use Rattle.cd.specs.Diagrams.{limit}
use Rattle.cd.specs.Edges.{is_two, edge_of}
use Rattle.filing.specs.Readable.{fraction_at}
use Rattle.readback.proofs.PairPlaces.{place_rising}
use Rattle.readback.proofs.StoredEdges.{upto_few, two_read, edge_read, row_starts, row_ends}
use Rattle.readback.proofs.read_row.Goals as goal
use Rattle.readback.proofs.read_row.Goals.{In-loop-i, then-not-eq_two, else-not-eq_two}

-- the edges so far are few
few : (c : In-loop-i) → c.loop-i.out.count ≤ limit * limit
few c = rw c.loop-i.invariant.count (upto_few limit c.args.s.now _ _ c.loop-i-test.true c.requires.0)

pub loop-i-init : goal.loop-i-init
loop-i-init c = rw row_starts c.requires.1

pub overflow_add-out : goal.overflow_add-out
overflow_add-out c = omega (arith, few (goal.at.overflow_add-out c).In-loop-i)

pub overflow_cast-out : goal.overflow_cast-out
overflow_cast-out c = omega (arith, few (goal.at.overflow_cast-out c).In-loop-i)

pub loop-i-preserved : goal.loop-i-preserved
loop-i-preserved c =
    let same = c.edge_at-edge.ensures ∙ ap (λ k. edge_of (fraction_at c.args.s.now k)) (sym (place_rising limit _ _ c.loop-i-test.true)) in
    let two = ap is_two (sym same) ∙ sym c.eq_two.ensures in
    elim c.if-not-eq_two.branch [
      | then-not-eq_two w ↦ rw (w.out-is, w.pair_place.ensures.0, same) (edge_read limit _ _ _ c.loop-i-test.true c.requires.0 _ c.loop-i.invariant (two ∙ w.if-not-eq_two.true))
      | else-not-eq_two w ↦ rw w.out-is (two_read limit _ _ _ c.loop-i-test.true c.requires.0 _ c.loop-i.invariant (two ∙ w.if-not-eq_two.false))
    ]

pub returns : goal.returns
returns c =
    let end : c.loop-i.i ≡ c.args.j = omega arith in
    rw (end, row_ends) at c.loop-i.invariant
