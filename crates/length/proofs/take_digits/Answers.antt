-- `length::take_digits` meets its contract; Invariants.antt has the argument.
use Prim.Native.Nat.{◌≤◌}
use mathlib.Core.Path.{◌≡◌, sym}
use native.Mathlib.Omega.{arith}
use lib.ListN.{length}
use Rattle.length.proofs.Runs.{took_digit, took_at_other, took_at_end}
use Rattle.length.proofs.take_digits.Goals as goal

pub returns-then-not-is_digit : goal.returns-then-not-is_digit
returns-then-not-is_digit c =
    let k = c.loop-i.invariant in
    k.1 _ (took_at_other _ _ _ _ c.loop-i-test.true (sym c.if-not-is_digit.ensures) k.0)

pub loop-i-preserved : goal.loop-i-preserved
loop-i-preserved c =
    let small : c.grown-value.result ≤ c.args.most = omega (arith, c.grown-value.ensures) in
    (small, λ r h. c.loop-i.invariant.1 r (took_digit _ _ _ _ r c.loop-i-test.true (sym c.if-not-is_digit.ensures) (rw c.grown-value.ensures at h)))

pub returns : goal.returns
returns c =
    let k = c.loop-i.invariant in
    let end : c.loop-i.i ≡ length c.args.t.now = omega arith in
    k.1 _ (rw (← end) (took_at_end _ _ _ _ (omega arith) (omega arith) k.0))
