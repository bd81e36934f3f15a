-- `float::decimal::decimal` meets its contract: a case of the definition for each way.
use mathlib.Core.Path.{sym, ◌∙◌}
use mir.Facts.{to_z-of_z}
use Rattle.float.specs.Decimal.{decimal_of}
use Rattle.float.proofs.decimal.decimal.Goals as goal

pub returns-then-not-in_range : goal.returns-then-not-in_range
unfolding decimal_of
returns-then-not-in_range c = simp (rw (to_z-of_z c.ranges.p) at (sym c.in_range.ensures ∙ c.if-not-in_range.true))

pub returns-then-minus : goal.returns-then-minus
unfolding decimal_of
returns-then-minus c =
    let back = to_z-of_z c.ranges.p in
    simp (c.if-minus.true, rw back at (sym c.in_range.ensures ∙ c.if-not-in_range.false), rw back at c.value-v.ensures)

pub returns-else-minus : goal.returns-else-minus
unfolding decimal_of
returns-else-minus c =
    let back = to_z-of_z c.ranges.p in
    simp (c.if-minus.false, rw back at (sym c.in_range.ensures ∙ c.if-not-in_range.false), rw back at c.value-v.ensures)
