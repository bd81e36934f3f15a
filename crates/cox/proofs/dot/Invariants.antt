-- `cox::dot` meets its contract. The invariant: the sum is of as many products as there were turns.
use mathlib.Core.Path.{◌≡◌}
use Prim.Native.Nat.{ℕ}
use lib.Ieee.{Float}
use lib.ListN.{length}
use Rattle.cox.specs.Squares.{flat, dot}
use Rattle.cox.proofs.dot.Given as goal

abbrev pub invariant-loop-x : goal.invariant-loop-x
invariant-loop-x l = (f g : ℕ → Float) (k : ℕ) → l.xs ≡ flat k f → l.ys ≡ flat k g → l.sum ≡ dot f g (length l.yielded)
