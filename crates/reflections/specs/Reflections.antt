-- Document 01, "Matrix, mirrors, families": "Reflection (`gen_iter`, its `gens`) in n: each unit column e becomes e − n×(2×(e·n) ÷ (n·n))."
use Rattle.std.specs.Prelude.{ℕ, eqb, Float}
use Rattle.float.specs.Numbers.{◌-ᶠ◌, ◌*ᶠ◌, ◌/ᶠ◌}
use Rattle.float.specs.Pick.{pick}
use Rattle.cox.specs.Squares.{Square, nil, one, two, dot}

-- the unit column c
unfoldable pub unit : ℕ → ℕ → Float
unit c r = pick (eqb r c) one nil

-- in the mirror n of as many rows
unfoldable pub reflection : (ℕ → Float) → ℕ → Square
unfolding unit dot
reflection n rows c r = unit c r -ᶠ n r *ᶠ (two *ᶠ dot (unit c) n rows /ᶠ dot n n rows)
