-- `generator::place` meets its contract. The invariant: the first i coordinates are placed.
use mathlib.Core.Path.{◌≡◌}
use Prim.Native.Nat.{ℕ}
use lib.Ieee.{Float}
use Rattle.cd.specs.Diagrams.{limit}
use Rattle.cox.specs.Squares.{Square, flat, flat_square}
use Rattle.generator.specs.TrueDistances.{placeᶠ}
use Rattle.generator.proofs.place.Given as goal

abbrev pub invariant-loop-i : goal.invariant-loop-i
invariant-loop-i l = (f : Square) (c : ℕ → Float) → l.m ≡ flat_square limit f → l.initial.b ≡ flat limit c → l.b ≡ flat limit (placeᶠ f l.i c)
