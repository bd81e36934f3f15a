-- `generator::lose` meets its contract. The invariant: the first r coordinates have lost.
use mathlib.Core.Path.{◌≡◌}
use Prim.Native.Nat.{ℕ}
use lib.Ieee.{Float}
use Rattle.cd.specs.Diagrams.{limit}
use Rattle.cox.specs.Squares.{Square, flat, flat_square}
use Rattle.generator.specs.Shown.{lost}
use Rattle.generator.proofs.lose.Given as goal

abbrev pub invariant-loop-r : goal.invariant-loop-r
invariant-loop-r l = (f : Square) (c : ℕ → Float) → l.m ≡ flat_square limit f → l.initial.b ≡ flat limit c → l.b ≡ flat limit (lost f l.i l.v c l.r)
