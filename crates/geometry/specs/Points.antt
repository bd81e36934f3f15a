-- The promises of `generator`, `wall_generator` and `reflections`. Document 01, "What each operation refuses": "Reflections: the text's, then 15 with column i.
-- Generator: the text's, 15, then 16, an infinite value (the first such node)." Document 02, K7, of the second generator: "Circumradius and the refusals 15 and 16
-- follow as in 01." A refusal "gives .. no value".
use Rattle.std.specs.Prelude.{Bool, true, false, List, ℕ, ltb, length, Result, Ok, Err}
use Rattle.float.specs.Pick.{pick}
use Rattle.cd.specs.declared.CdError.{CdError}
use Rattle.cd.specs.declared.CdError.TheVariants.{Crowded, Infinite}
use Rattle.cd.specs.declared.Node.{Node}
use Rattle.cox.specs.Matrix.{matrix}
use Rattle.cox.specs.Squares as squares
use Rattle.generator.specs.Generator.{values, first_infinite}
use Rattle.generator.specs.Shown.{generator_of}
use Rattle.generator.specs.TrueDistances.{coordinates}
use Rattle.generator.specs.declared.Generator.{Generator}
use Rattle.normals.specs.Mirrors.{Mirrors, Columns, mirrors}
use Rattle.normals.specs.Mirrors as normals
use Rattle.parse.specs.Reading.{Reading, Accepted, Refused}
use Rattle.reflections.specs.Shown.{reflections_of}
use Rattle.reflections.specs.declared.Reflections.{Reflections}

-- ---- the generator

-- of mirrors, or walls, that fit
unfoldable pub solved_generator : Bool → List Node → squares.Square → Result Generator CdError
unfolding generator_of coordinates values first_infinite
solved_generator walls ns m =
    let n = length ns in
    let k = first_infinite ns 0 in
    pick (ltb k n) (Err (Infinite k)) (Ok (generator_of n (coordinates walls m n (values ns))))

unfoldable pub shown_generator : Bool → List Node → Mirrors → Result Generator CdError
unfolding solved_generator
shown_generator walls ns (Columns m) = solved_generator walls ns m
shown_generator walls ns (normals.Refused i) = Err (Crowded i)

unfoldable pub generator_over : Bool → Reading → Result Generator CdError
unfolding shown_generator mirrors matrix
generator_over walls (Accepted ns es) = shown_generator walls ns (mirrors walls (matrix es) (length ns))
generator_over walls (Refused e) = Err e

-- "The Rust's generator remains under its own call"
abbrev pub generator_of_text : Reading → Result Generator CdError
generator_of_text = generator_over false

abbrev pub wall_generator_of_text : Reading → Result Generator CdError
wall_generator_of_text = generator_over true

-- ---- the reflections

unfoldable pub shown_reflections : ℕ → Mirrors → Result Reflections CdError
unfolding reflections_of
shown_reflections n (Columns m) = Ok (reflections_of n m)
shown_reflections n (normals.Refused i) = Err (Crowded i)

unfoldable pub reflections_of_text : Reading → Result Reflections CdError
unfolding shown_reflections mirrors matrix
reflections_of_text (Accepted ns es) = shown_reflections (length ns) (mirrors false (matrix es) (length ns))
reflections_of_text (Refused e) = Err e
