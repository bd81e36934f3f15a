-- `minimal::minimal` meets its contract; Invariants.antt has the argument.
use mathlib.Core.Path.{sym, ◌∙◌}
use native.Mathlib.Omega.{arith}
use Rattle.minimal.proofs.Rings.{decided_minimal, decided_not_minimal}
use Rattle.minimal.proofs.minimal.Goals as goal

pub returns-in-component : goal.returns-in-component
returns-in-component c ns es held =
    decided_not_minimal _ ns es held c.requires _ (c.components-of.ensures ns es held) c.component.c (omega arith) c.if-of-c.false (λ i h e. c.loop-i.invariant.1 i (omega arith) (e ∙ sym c.loop-i.invariant.0))

pub returns : goal.returns
returns c ns es held =
    decided_minimal _ ns es held c.requires _ (c.components-of.ensures ns es held) (λ k h. c.component.invariant k (omega arith))
