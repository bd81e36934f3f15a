-- `cox::square` meets its contract. The invariants: the first c columns are the square's, and of column c the first r rows.
use mathlib.Core.Path.{◌≡◌}
use Prim.Native.Nat.{ℕ, ◌<◌}
use lib.Ieee.{Float}
use Rattle.cd.specs.Diagrams.{limit}
use Rattle.cox.specs.Squares.{Square, flat_square}
use Rattle.cox.proofs.Columns.{put_column, first}
use Rattle.cox.proofs.square.Given as goal

abbrev pub invariant-loop-c : goal.invariant-loop-c
invariant-loop-c g l =
    (m : Square) → ((c r : ℕ) (x : Float) → c < limit → r < limit → goal.F-post g l.entry c r x → x ≡ m c r) → l.at ≡ flat_square limit (first l.c m)

abbrev pub invariant-loop-r : goal.invariant-loop-r
invariant-loop-r g l =
    (m : Square) → ((c r : ℕ) (x : Float) → c < limit → r < limit → goal.F-post g l.entry c r x → x ≡ m c r)
    → l.at ≡ flat_square limit (put_column (first l.c m) l.c (m l.c) l.r)
