-- `minimal::minimal` meets its contract. The outer invariant: each label below c that is its own has a ringed node; the inner: none of the nodes below i
-- that have the label c is ringed.
use Prim.Native.Nat.{ℕ, ◌<◌}
use mathlib.Core.Bool.{false}
use mathlib.Core.Path.{◌≡◌}
use Rattle.minimal.specs.Labels.{label_in}
use Rattle.minimal.proofs.Rings.{ringed_in, RingIn}
use Rattle.minimal.proofs.minimal.Given as goal

abbrev pub invariant-loop-i : goal.invariant-loop-i
invariant-loop-i l = (l.c ≡ l.initial.c) × ((k : ℕ) → k < l.i → label_in l.of k ≡ l.c → ringed_in l.cd.nodes k ≡ false)

abbrev pub invariant-component : goal.invariant-component
invariant-component l = (k : ℕ) → k < l.c → label_in l.of k ≡ k → RingIn l.cd.count (label_in l.of) (ringed_in l.cd.nodes) k
