-- `minimal::relabel` meets its contract. The invariant: the labels below the index are replaced, the others are as they were.
use Prim.Native.Nat.{ℕ, ◌≤◌, ◌<◌}
use mathlib.Core.Path.{◌≡◌}
use Rattle.minimal.specs.Labels.{label_in, instead}
use Rattle.minimal.proofs.relabel.Given as goal

abbrev pub invariant-loop-label : goal.invariant-loop-label
invariant-loop-label l =
    ((k : ℕ) → k < l.label-index → label_in l.of k ≡ instead l.from l.to (label_in l.initial.of k)) × ((k : ℕ) → l.label-index ≤ k → label_in l.of k ≡ label_in l.initial.of k)
