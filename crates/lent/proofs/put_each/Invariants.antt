-- `lent::put_each` meets its contract. The invariant: what the elements passed show is stored, up to `at`.
use Prim.Native.Nat.{◌≤◌}
use lib.ListN.{length}
use Rattle.lent.proofs.Copying.{Stored}
use Rattle.lent.proofs.put_each.Given as goal

abbrev pub invariant-loop-x : goal.invariant-loop-x
invariant-loop-x g l = (l.at ≤ length l.out) × Stored g.T.Shown.shown l.all l.x-index l.at l.initial.out l.out
