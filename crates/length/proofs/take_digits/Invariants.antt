-- `length::take_digits` meets its contract. The invariant: what is taken from here on, after what was taken, is what is taken from `at` on.
use Prim.Native.Nat.{◌≤◌}
use Rattle.length.specs.Kept.{Took}
use Rattle.length.specs.declared.Digits.{Digits}
use Rattle.length.proofs.take_digits.Given as goal

abbrev pub invariant-loop-i : goal.invariant-loop-i
invariant-loop-i l = (l.value ≤ l.most) × ((r : Digits) → Took l.t l.i l.value l.most r → Took l.t l.at l.before l.most r)
