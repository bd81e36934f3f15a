-- `shelf::place_for` meets its contract; Invariants.antt has the argument.
use mathlib.Core.Path.{refl}
use native.Mathlib.Numerals.{add-one}
use native.Mathlib.Omega.{arith}
use Rattle.cd.proofs.Decided.{refutes}
use Rattle.shelf.specs.Bisects.{none_left, in_front, behind}
use Rattle.shelf.specs.Shelves.{place_at}
use Rattle.shelf.proofs.place_for.Goals as goal

pub loop-low-preserved-then-no_greater : goal.loop-low-preserved-then-no_greater
unfolding place_at
loop-low-preserved-then-no_greater c =
    let l = c.loop-low in
    (omega arith, λ p b. l.invariant.1 p (in_front c.loop-low-test.true (rw c.place.ensures at (c.if-no_greater.ensures.only_when refl)) b))

pub loop-low-preserved : goal.loop-low-preserved
unfolding place_at
loop-low-preserved c =
    let l = c.loop-low in
    (omega arith, λ p b. l.invariant.1 p (behind c.loop-low-test.true (rw c.place.ensures at (refutes c.if-no_greater.ensures refl)) (rw add-one at b)))

pub returns : goal.returns
returns c = let l = c.loop-low in l.invariant.1 l.low (none_left c.loop-low-test.false)
