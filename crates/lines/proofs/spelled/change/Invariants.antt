-- `lines::spelled::change` is safe and ends. The invariant: digits come five at a time.
use Rattle.std.proofs.Common.{◌≡◌}
use Rattle.std.specs.Slice.Iter.{chunks_exact_size}
use Rattle.lines.proofs.spelled.change.Given as goal

abbrev pub invariant-loop-five : goal.invariant-loop-five
invariant-loop-five l =
    (goal.iterator-loop-five).can_next l.five-iterator
    × (goal.iterator-loop-five).is_finite l.five-iterator
    × (chunks_exact_size l.five-iterator ≡ 5)
