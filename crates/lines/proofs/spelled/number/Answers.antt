-- `lines::spelled::number` meets its contract; Invariants.antt has the argument.
use native.Mathlib.Nat.{pow-le-pow_right, zero-lt-suc}
use Rattle.std.proofs.Common.{◌^◌, ◌≤◌, arith}
use Rattle.lines.proofs.spelled.number.Goals as goal

pub overflow_mul-n : goal.overflow_mul-n
overflow_mul-n c =
    let most : c.loop-b.b-index ≤ 2 = omega arith in
    let p : 16 ^ c.loop-b.b-index ≤ 16 ^ 2 = pow-le-pow_right (zero-lt-suc 15) most in
    omega arith
