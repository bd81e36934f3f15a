-- `blocks::Trial::grow` meets its contract: a block of place j has at most seven digits, so that one more fits.
use native.Mathlib.Omega.{arith}
use Prim.Native.Nat.{◌+◌, ◌*◌, ◌^◌, ◌<◌}
use lib.ListN.{length-set}
use Rattle.cd.specs.Diagrams.{limit}
use Rattle.filing.specs.Numberings.{at}
use Rattle.blocks.specs.Blocks.{base}
use Rattle.blocks.specs.Ranks.{table}
use Rattle.blocks.proofs.Blocks as blocks
use Rattle.blocks.proofs.Rows.{row_more}
use Rattle.blocks.proofs.Trial.grow.Goals as goal
use Rattle.blocks.proofs.Trial.grow.Goals.{In-loop-w}

key_low : (c : In-loop-w) → at c.loop-w.self.keys (limit * c.args.j + c.loop-w.w) < base ^ 7
key_low c =
    let l = c.loop-w in
    let r = c.args.r.now in
    blocks.key_low (table limit r.pairs) r.count c.args.j (at c.args.self.now.nodes) l.self.keys l.invariant.2 l.w (λ u v. r.low (limit * u + v)) r.few c.if-j-r.true c.loop-w-test.true

pub overflow_mul-self-in-loop-w : goal.overflow_mul-self-in-loop-w
overflow_mul-self-in-loop-w c = omega (arith, key_low (goal.at.overflow_mul-self-in-loop-w c).In-loop-w)

pub overflow_add-self-in-loop-w-2 : goal.overflow_add-self-in-loop-w-2
overflow_add-self-in-loop-w-2 c =
    omega (arith, key_low (goal.at.overflow_add-self-in-loop-w-2 c).In-loop-w, c.args.r.now.low (limit * at c.args.self.now.nodes c.args.j + c.loop-w.w))

pub loop-w-preserved : goal.loop-w-preserved
loop-w-preserved c =
    let l = c.loop-w in
    let r = c.args.r.now in
    let e = table limit r.pairs in
    let p = at c.args.self.now.nodes in
    let j = c.args.j in
    let grown = blocks.key_more e r.count j p l.self.keys l.invariant.2 l.w c.requires.0 c.loop-w-test.true in (
      l.invariant.0,
      rw length-set l.invariant.1,
      blocks.keyed_past e r.count j p l.self.keys l.invariant.2 l.w _,
      row_more _ l.self.keys l.w _ grown (limit * (j + 1)) (omega arith) l.invariant.3,
    )
