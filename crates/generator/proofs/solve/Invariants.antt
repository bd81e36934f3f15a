-- `generator::solve` meets its contract. The invariant: the rows that are left, from the present coordinates, give the whole answer.
use mathlib.Core.Path.{◌≡◌}
use Prim.Native.Nat.{ℕ}
use lib.Ieee.{Float}
use Rattle.cd.specs.Diagrams.{limit}
use Rattle.cox.specs.Squares.{Square, flat, flat_square}
use Rattle.generator.specs.Generator.{solve}
use Rattle.generator.proofs.solve.Given as goal

abbrev pub invariant-loop-i : goal.invariant-loop-i
invariant-loop-i l =
    (f : Square) (c : ℕ → Float) → l.m ≡ flat_square limit f → l.initial.b ≡ flat limit c → ((x : ℕ → Float) × (l.b ≡ flat limit x) × (solve f l.i x ≡ solve f l.n c))
