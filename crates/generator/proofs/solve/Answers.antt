-- `generator::solve` meets its contract; Invariants.antt has the argument.
use mathlib.Core.Path.{ap, ap₂, ◌∙◌}
use Prim.Native.Nat.{◌-◌}
use native.Mathlib.Omega.{arith}
use lib.Ieee.{nan}
use Rattle.float.specs.Numbers.{◌/ᶠ◌}
use Rattle.cd.specs.Diagrams.{limit}
use Rattle.cox.specs.Squares.{flat}
use Rattle.cox.proofs.Sums.{row_read, entry_read}
use Rattle.generator.specs.Generator.{solved}
use Rattle.generator.proofs.Rows.{solved_row, solve_last, solve_done}
use Rattle.generator.proofs.solve.Goals as goal

pub loop-i-preserved : goal.loop-i-preserved
loop-i-preserved c f b e w =
    let i = c.loop-i.i - 1 in
    let (x, held, rest) = c.loop-i.invariant f b e w in
    let v = ap₂ ◌/ᶠ◌ (row_read limit x _ nan held i (omega arith)) (entry_read limit f _ nan e i i (omega arith) (omega arith)) in
    (solved f i x, solved_row f i x _ v limit _ _ (omega arith) held (λ y k. c.lose.ensures f y e k), solve_last f c.loop-i.i x (omega arith) ∙ rest)

pub returns : goal.returns
returns c f b e w =
    let l = c.loop-i in
    let (x, held, rest) = l.invariant f b e w in
    held ∙ ap (flat limit) (solve_done f l.i x (omega arith) ∙ rest)
