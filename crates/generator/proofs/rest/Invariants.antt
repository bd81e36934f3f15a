-- `generator::rest` meets its contract. The invariant: the first k coordinates are taken off.
use mathlib.Core.Path.{◌≡◌}
use Prim.Native.Nat.{ℕ}
use lib.Ieee.{Float}
use Rattle.cd.specs.Diagrams.{limit}
use Rattle.cox.specs.Squares.{Square, flat, flat_square}
use Rattle.generator.specs.TrueDistances.{restᶠ}
use Rattle.generator.proofs.rest.Given as goal

abbrev pub invariant-loop-k : goal.invariant-loop-k
invariant-loop-k l = (f : Square) (c : ℕ → Float) → l.m ≡ flat_square limit f → l.b ≡ flat limit c → l.rest ≡ restᶠ f c l.i l.k
