-- `cox::column` meets its contract: the rows of a column stand together.
use mathlib.Core.Path.{ap, ◌∙◌}
use Prim.Native.Nat.{◌*◌}
use native.Mathlib.Omega.{arith}
use lib.ListN.{take, drop}
use Rattle.cd.specs.Diagrams.{limit}
use Rattle.cox.proofs.Flats.{column_front}
use Rattle.cox.proofs.column.Goals as goal

pub returns : goal.returns
returns c f e =
    let a = c.args in
    ap (λ k. take k (drop (limit * a.i) a.m.now)) (omega arith)
    ∙ ap (λ m. take a.k (drop (limit * a.i) m)) e
    ∙ column_front limit f a.i a.k c.requires.0 c.requires.1
