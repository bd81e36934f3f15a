-- Document 01, "Nodes and edges": "Letters, each operation rounded once (IEEE 754 binary64)".
use Rattle.std.specs.Prelude.{ℕ, List, [], ◌∷◌, eqb, Option, Some, None}
use Prim.Native.Char.{Char, code}
use Rattle.float.specs.Pick.{pick}
use Rattle.float.specs.Numbers.{whole, ◌+ᶠ◌, ◌-ᶠ◌, ◌*ᶠ◌, ◌/ᶠ◌}
use Rattle.float.specs.Constants.{R2, R3, R5}
use Rattle.float.specs.Root.{root_of}
use Rattle.cd.specs.declared.Node.{Node}
use Rattle.cd.specs.declared.Node.TheVariants.{Unringed, Ringed, Snub}

pub record Entry : Type 0 where
  pub letter : Char
  pub node : Node

abbrev entry : Char → Node → Entry
entry c n = record { letter = c; node = n }

-- "o unringed; s snub 1; ringed: v (R5−1)/2, x 1, q R2, f (R5+1)/2, h R3, k root of (R2+2), u 2, w R2+1, F (R5+3)/2, e R3+1, Q R2×2, d 3, V R5+1, U R2+2,
-- A (R5+1)/4+1, X R2×2+1, B R5+2"
unfoldable pub letters : List Entry
letters =
    entry "o" Unringed ∷
    entry "s" (Snub (whole 1)) ∷
    entry "v" (Ringed ((R5 -ᶠ whole 1) /ᶠ whole 2)) ∷
    entry "x" (Ringed (whole 1)) ∷
    entry "q" (Ringed R2) ∷
    entry "f" (Ringed ((R5 +ᶠ whole 1) /ᶠ whole 2)) ∷
    entry "h" (Ringed R3) ∷
    entry "k" (Ringed (root_of (R2 +ᶠ whole 2))) ∷
    entry "u" (Ringed (whole 2)) ∷
    entry "w" (Ringed (R2 +ᶠ whole 1)) ∷
    entry "F" (Ringed ((R5 +ᶠ whole 3) /ᶠ whole 2)) ∷
    entry "e" (Ringed (R3 +ᶠ whole 1)) ∷
    entry "Q" (Ringed (R2 *ᶠ whole 2)) ∷
    entry "d" (Ringed (whole 3)) ∷
    entry "V" (Ringed (R5 +ᶠ whole 1)) ∷
    entry "U" (Ringed (R2 +ᶠ whole 2)) ∷
    entry "A" (Ringed ((R5 +ᶠ whole 1) /ᶠ whole 4 +ᶠ whole 1)) ∷
    entry "X" (Ringed (R2 *ᶠ whole 2 +ᶠ whole 1)) ∷
    entry "B" (Ringed (R5 +ᶠ whole 2)) ∷
    []

-- the first entry of the letter; "Other characters are no node."
unfoldable pub find : List Entry → ℕ → Option Node
find [] b = None
find (e ∷ es) b = let r = find es b in pick (eqb b (code e.letter)) (Some e.node) r

unfoldable pub letter_of : ℕ → Option Node
unfolding find letters
letter_of b = find letters b
