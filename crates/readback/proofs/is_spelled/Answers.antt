-- `readback::is_spelled` meets its contract: count, nodes and pairs make a diagram in lowest terms, which has each (proofs/SpelledDiagrams.antt).
use mathlib.Core.Path.{sym, ◌∙◌}
use native.Mathlib.Omega.{arith}
use borrow.Author.Tests.{leb-true}
use Rattle.cd.proofs.Decided.{decides_no, refutes, decides_same}
use Rattle.readback.proofs.SpelledDiagrams.{spelled_few, spelled_nodes, spelled_pairs, spelled_diagram}
use Rattle.readback.proofs.is_spelled.Goals as goal
use Rattle.readback.proofs.is_spelled.Goals.{then-n-le-LIMIT, else-n-le-LIMIT}

pub returns-then-are_nodes : goal.returns-then-are_nodes
returns-then-are_nodes c = elim c.if-n-le-LIMIT.branch [
  | then-n-le-LIMIT w ↦
      decides_same (spelled_diagram _ _ w.if-n-le-LIMIT.true (w.are_nodes.ensures.only_when (sym w.value-is ∙ c.if-are_nodes.true))) (spelled_pairs _ _) c.are_pairs.ensures
  | else-n-le-LIMIT w ↦ absurd (omega (arith, leb-true _ 9 (sym w.value-is ∙ c.if-are_nodes.true)))
]

pub returns-else-are_nodes : goal.returns-else-are_nodes
returns-else-are_nodes c = elim c.if-n-le-LIMIT.branch [
  | then-n-le-LIMIT w ↦ rw c.if-are_nodes.false (decides_no (λ k. refutes w.are_nodes.ensures (sym w.value-is ∙ c.if-are_nodes.false) (spelled_nodes _ _ k.is)))
  | else-n-le-LIMIT w ↦ rw c.if-are_nodes.false (decides_no (λ k. omega (arith, spelled_few _ _ k.is)))
]
