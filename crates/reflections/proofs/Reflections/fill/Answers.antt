-- `reflections::Reflections::fill` meets its contract; Invariants.antt has the argument.
use mathlib.Core.Path.{◌≡◌, refl, ap, ◌∙◌}
use native.Mathlib.Omega.{arith}
use borrow.Author.Rules.{rules}
use lib.ListN.{set}
use Rattle.cd.specs.Diagrams.{limit}
use Rattle.cox.specs.Squares.{flat_square}
use Rattle.reflections.specs.Reflections.{unit}
use Rattle.reflections.specs.declared.Reflections.{Reflections}
use Rattle.reflections.proofs.Matrices.{made, made_none, made_more, made_all}
use Rattle.reflections.proofs.Reflections.fill.Goals as goal

pub loop-i-init : goal.loop-i-init
loop-i-init c f e = ap (λ of. record { of = of; count = c.args.n }) (c.requires.1 ∙ made_none c.args.n f _ refl)

pub loop-i-preserved : goal.loop-i-preserved
loop-i-preserved c f e =
    let i = c.loop-i.i in
    let n = c.args.n in
    let units : c.square-units.result ≡ flat_square limit unit = c.square-units.ensures unit (λ j r x h l p. search rules) in
    ap (λ (a : Reflections). record { of = set a.of i (record { at = c.reflection.result }); count = a.count }) (c.loop-i.invariant f e)
    ∙ ap (λ of. record { of = of; count = n }) (made_more i n f (made i n f) _ (omega arith) (c.reflection.ensures f units e) refl)

pub returns : goal.returns
returns c f e =
    let n = c.args.n in
    c.loop-i.invariant f e ∙ made_all n f _ (ap (λ k. made k n f) (omega arith))
