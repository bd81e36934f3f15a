-- How the code holds reflections: each goes on past the count as the unit matrix, and past the last mirror there are zeros.
use Rattle.std.specs.Prelude.{List, ℕ, ltb, replicate}
use Rattle.float.specs.Pick.{pick}
use Rattle.cd.specs.Diagrams.{limit}
use Rattle.cox.specs.Squares.{Square, zeros, flat, flat_square}
use Rattle.reflections.specs.Reflections.{reflection}
use Rattle.reflections.specs.declared.Matrix.{Matrix}
use Rattle.reflections.specs.declared.Reflections as declared

-- before any is made
abbrev pub blank : List Matrix
blank = replicate limit (record { at = flat_square limit zeros })

unfoldable pub reflections_of : ℕ → Square → declared.Reflections
unfolding flat flat_square reflection
reflections_of n m = record { of = flat limit (λ i. record { at = flat_square limit (pick (ltb i n) (reflection (m i) n) zeros) }); count = n }
