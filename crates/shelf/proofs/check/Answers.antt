-- `shelf::check` meets its contract; Invariants.antt has the argument.
use mathlib.Core.Path.{refl, ap}
use native.Mathlib.Omega.{arith}
use borrow.Author.Count.{below_more}
use Rattle.std.specs.Prelude.{Err}
use Rattle.std.proofs.lemmas.Result.{err_from_is_err_and}
use Rattle.cd.proofs.Decided.{refutes}
use Rattle.shelf.specs.Checks.{wrong, right, no_multiple, first_wrong}
use Rattle.shelf.proofs.check.Goals as goal

pub returns-in_err-n : goal.returns-in_err-n
returns-in_err-n c =
    let p = err_from_is_err_and c.from_residual.result c.from_residual.ensures.1 in
    wrong (no_multiple c.in_err-n.ensures.1) (rw (p.1, p.2) (ap Err c.in_err-n.ensures.0))

pub returns-then-not-is_right : goal.returns-then-not-is_right
returns-then-not-is_right c = wrong (first_wrong c.in_ok-n.ensures c.loop-i-test.true c.loop-i.invariant (refutes c.if-not-is_right.ensures refl)) refl

pub loop-i-preserved : goal.loop-i-preserved
loop-i-preserved c = below_more _ _ c.loop-i.invariant (c.if-not-is_right.ensures.only_when refl)

pub returns : goal.returns
returns c = right (record { whole = c.in_ok-n.ensures; right = λ i h. c.loop-i.invariant i (omega arith) }) refl
