-- `float::decimal::in_range` meets its contract.
use mathlib.Core.Path.{◌≡◌}
use mathlib.Core.Bool.{true, false}
use lib.IntN.{negsuc}
use lib.Signed.{le_z}
use mir.Facts.{to_z-of_z}
use Rattle.float.specs.Decimal.{in_range}
use Rattle.float.proofs.decimal.in_range.Goals as goal

pub returns-then-p-geminus22 : goal.returns-then-p-geminus22
unfolding in_range
returns-then-p-geminus22 c =
    let back = to_z-of_z c.ranges.p in
    let h : le_z (negsuc 21) c.args.p ≡ true = rw back at c.if-p-geminus22.true in
    rw back (rw h)

pub returns-else-p-geminus22 : goal.returns-else-p-geminus22
unfolding in_range
returns-else-p-geminus22 c =
    let back = to_z-of_z c.ranges.p in
    let h : le_z (negsuc 21) c.args.p ≡ false = rw back at c.if-p-geminus22.false in
    rw back (rw h)
