-- `reflections::Reflections::fill` meets its contract. The invariant: the first i matrices are those of the reflections.
use mathlib.Core.Path.{◌≡◌}
use Rattle.cd.specs.Diagrams.{limit}
use Rattle.cox.specs.Squares.{Square, flat_square}
use Rattle.reflections.proofs.Matrices.{made}
use Rattle.reflections.proofs.Reflections.fill.Given as goal

abbrev pub invariant-loop-i : goal.invariant-loop-i
invariant-loop-i l = (f : Square) → l.m ≡ flat_square limit f → l.self ≡ record { of = made l.i l.n f; count = l.n }
