-- `cox::square` meets its contract; Invariants.antt has the argument.
use mathlib.Core.Path.{refl, ap, ap₂, ◌∙◌}
use Prim.Native.Nat.{◌+◌, ◌*◌}
use native.Mathlib.Omega.{arith}
use lib.ListN.{set}
use Rattle.cd.specs.Diagrams.{limit}
use Rattle.cox.specs.Squares.{flat_square}
use Rattle.cox.proofs.Columns.{put_column, column_none, column_more, first, first_none, first_all, first_more}
use Rattle.cox.proofs.square.Goals as goal

pub loop-c-init : goal.loop-c-init
loop-c-init g c m e = c.zeros-at.ensures ∙ first_none limit m

pub loop-r-init : goal.loop-r-init
loop-r-init g c m e = c.loop-c.invariant m e ∙ column_none limit (first c.loop-c.c m) c.loop-c.c (m c.loop-c.c)

pub loop-r-preserved : goal.loop-r-preserved
loop-r-preserved g c m e =
    let i = c.loop-c.c in
    let r = c.loop-r.r in
    ap₂ (λ s v. set s (limit * i + r) v) (c.loop-r.invariant m e) (e i r _ (omega arith) (omega arith) c.entry.ensures)
    ∙ column_more limit (first i m) i r (m i) (omega arith) (omega arith)

pub loop-c-preserved : goal.loop-c-preserved
loop-c-preserved g c m e =
    let i = c.loop-c.c in
    first_more limit m i (m i) _ (λ r. refl) (c.loop-r.invariant m e ∙ ap (λ k. flat_square limit (put_column (first i m) i (m i) k)) (omega arith))

pub returns : goal.returns
returns g c m e = c.loop-c.invariant m e ∙ ap (λ k. flat_square limit (first k m)) (omega arith) ∙ first_all limit m
