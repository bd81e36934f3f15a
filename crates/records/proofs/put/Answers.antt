-- `records::put` meets its contract; Invariants.antt has the argument.
use mathlib.Core.Path.{◌≡◌, refl, sym, ap, ◌∙◌}
use Prim.Native.Nat.{◌+◌}
use native.Mathlib.Omega.{arith}
use lib.ListN.{get_or, set, length, take, length-set}
use lib.Seq.{take-length}
use Rattle.filing.proofs.Bytes.{written_nil}
use Rattle.filing.specs.Bytes.{written}
use Rattle.records.proofs.Parts.{put_more}
use Rattle.records.proofs.put.Goals as goal

pub loop-i-init : goal.loop-i-init
loop-i-init c = (refl, sym (written_nil _ _))

pub loop-i-preserved : goal.loop-i-preserved
loop-i-preserved c =
    let l = c.loop-i in
    (simp length-set l.invariant.0, ap (λ z. set z (c.args.at + l.i) (get_or c.args.from.now l.i 0)) l.invariant.1 ∙ put_more _ _ _ l.i (omega arith) (omega arith))

pub returns : goal.returns
returns c =
    let l = c.loop-i in
    let a = c.args in
    let e : l.i ≡ length a.from.now = omega arith in
    l.invariant.1 ∙ ap (λ z. written a.at z a.out.now) (ap (λ n. take n a.from.now) e ∙ take-length a.from.now)
