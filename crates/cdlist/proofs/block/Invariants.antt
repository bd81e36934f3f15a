-- `cdlist::block` meets its contract. The invariant: the lines before place i are answered in what waits; the measure is what is left of the input.
use Rattle.std.proofs.Common.{◌≤◌, ◌-◌, ◌*◌, length}
use Rattle.lines.specs.Blocks.{IsBlock}
use Rattle.arrayvec.specs.ArrayVec.{array_vec_len}
use Rattle.cdlist.specs.Lists.{longest, Listed}
use Rattle.cdlist.proofs.block.Given as goal

abbrev pub invariant-loop-i : goal.invariant-loop-i
invariant-loop-i l = record {
  block : IsBlock (Listed l.wish) l.s l.from l.out.items l.i;
  on : l.from ≤ l.i;
  few : array_vec_len l.out ≤ longest * (l.i - l.from);
}

abbrev pub decreases-loop-i : goal.decreases-loop-i
decreases-loop-i l = length l.s - l.i
