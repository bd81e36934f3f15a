-- `cdlist::block` meets its contract; Invariants.antt has the argument.
use Rattle.std.proofs.Common.{◌≡◌, ◌-◌, ap, length, take, drop, length-drop, arith}
use Rattle.std.proofs.Math.Seq.{take_all}
use Rattle.lines.proofs.Blocks.{block_none, block_line}
use Rattle.lines.proofs.Ends.{ends_at}
use Rattle.cdlist.proofs.block.Goals as goal

pub loop-i-init : goal.loop-i-init
loop-i-init c = record { block = rw c.clear.ensures (block_none _ _); on = omega arith; few = omega (arith, ap length c.clear.ensures) }

pub loop-i-preserved : goal.loop-i-preserved
loop-i-preserved c =
    let i = c.loop-i.i in
    let s = c.args.s.now in
    let l = c.line.ensures.added in
    let rest : take (length s - i) (drop i s) ≡ drop i s = take_all _ _ (omega (arith, length-drop i s)) in
    record {
      block = block_line _ _ l.bytes c.loop-i-test.true (ends_at (drop i s) i (rw rest at c.until.ensures.first)) l.allowed l.added c.loop-i.invariant.block;
      on = omega arith;
      few = omega arith;
    }
