-- `cox::dot` meets its contract; Invariants.antt has the argument.
use mathlib.Core.Path.{◌≡◌, sym, ap, ◌∙◌}
use Prim.Native.Nat.{◌<◌}
use native.Mathlib.Omega.{arith}
use borrow.Author.Rules.{rules}
use lib.Ieee.{nan}
use lib.ListN.{length, length-append}
use Rattle.std.proofs.lemmas.Slice.Zip.{zip_turn, zip_end}
use Rattle.cox.specs.Squares.{dot}
use Rattle.cox.proofs.Flats.{length_flat}
use Rattle.cox.proofs.Sums.{zero_literal, dot_none, dot_more, row_read}
use Rattle.cox.proofs.dot.Goals as goal

pub loop-x-init : goal.loop-x-init
loop-x-init c f g k p q = zero_literal ∙ dot_none f g

pub loop-x-preserved : goal.loop-x-preserved
loop-x-preserved c f g k p q =
    let n = length c.loop-x.yielded in
    let (here, _, x, y) = zip_turn c.args.xs.now c.args.ys.now c.loop-x.yielded c.into_iter-x-iterator.result c.loop-x.x-iterator c.next.new.self _ (search rules) (search rules) c.loop-x.yielded_by _ c.in-Some.is c.next.ensures.steps in
    let inside : n < k = omega (arith, ap length p, length_flat k f) in
    dot_more f g n _ _ _ (c.loop-x.invariant f g k p q) (x nan ∙ row_read k f _ nan p n inside) (y nan ∙ row_read k g _ nan q n inside)
    ∙ ap (dot f g) (sym (length-append c.loop-x.yielded _))

pub returns : goal.returns
returns c f g k p q =
    let t = zip_end c.args.xs.now c.args.ys.now c.loop-x.yielded c.into_iter-x-iterator.result c.loop-x.x-iterator c.next.new.self _ (search rules) (search rules) c.loop-x.yielded_by c.in-None.is c.next.ensures.steps in
    let all : length c.loop-x.yielded ≡ k = omega (arith, ap length p, ap length q, length_flat k f, length_flat k g) in
    c.loop-x.invariant f g k p q ∙ ap (dot f g) all
