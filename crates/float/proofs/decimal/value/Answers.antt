-- `float::decimal::value` meets its contract.
use mathlib.Core.Path.{◌≡◌}
use mathlib.Core.Bool.{true, false}
use lib.IntN.{pos}
use lib.Signed.{le_z}
use mir.Facts.{to_z-of_z}
use Rattle.float.specs.Numbers.{whole}
use Rattle.float.proofs.Powers.{size, up_value, minus_fits, down_size, down_cast, down_value}
use Rattle.float.proofs.decimal.value.Goals as goal
use Rattle.float.proofs.decimal.value.Goals.{Else-p-ge0, Then-p-ge0}

-- which way p counts
up : (c : Then-p-ge0) → le_z (pos 0) c.args.p ≡ true
up c = rw (to_z-of_z c.ranges.p) at c.if-p-ge0.true

down : (c : Else-p-ge0) → le_z (pos 0) c.args.p ≡ false
down c = rw (to_z-of_z c.ranges.p) at c.if-p-ge0.false

pub ten-requires : goal.ten-requires
ten-requires c = rw (to_z-of_z c.ranges.p) (size _ c.requires.1)

pub overflow_sub-p : goal.overflow_sub-p
overflow_sub-p c = rw (to_z-of_z c.ranges.p) (minus_fits _ c.requires.1 (down c))

pub overflow_cast-p-else-p-ge0 : goal.overflow_cast-p-else-p-ge0
overflow_cast-p-else-p-ge0 c =
    let q = c.requires.1 in
    rw (to_z-of_z c.ranges.p) (rw (to_z-of_z (minus_fits _ q (down c))) (down_cast _ q (down c)))

pub ten-requires-else-p-ge0 : goal.ten-requires-else-p-ge0
ten-requires-else-p-ge0 c =
    let q = c.requires.1 in
    rw (to_z-of_z c.ranges.p) (rw (to_z-of_z (minus_fits _ q (down c))) (down_size _ q (down c)))

pub returns-then-p-ge0 : goal.returns-then-p-ge0
unfolding whole
returns-then-p-ge0 c = rw (c.ten.ensures, to_z-of_z c.ranges.p) (up_value _ _ (up (goal.at.returns-then-p-ge0 c).Then-p-ge0))

pub returns-else-p-ge0 : goal.returns-else-p-ge0
unfolding whole
returns-else-p-ge0 c =
    let d = (goal.at.returns-else-p-ge0 c).Else-p-ge0 in
    rw (c.ten-else-p-ge0.ensures, to_z-of_z c.ranges.p, to_z-of_z (minus_fits _ c.requires.1 (down d))) (down_value _ _ (down d))
