-- `shelf_rescue::rescue` meets its contract. The invariant: what is saved of the places passed stands in the buffers.
use Prim.Native.Nat.{◌≤◌}
use Rattle.cd.specs.Diagrams.{limit}
use Rattle.shelf_rescue.proofs.Saving.{Saved}
use Rattle.shelf_rescue.proofs.rescue.Given as goal

abbrev pub invariant-loop-i : goal.invariant-loop-i
invariant-loop-i l = (l.kept ≤ l.i) × Saved limit l.file l.initial.out l.initial.marks l.i l.kept l.last l.out l.marks
