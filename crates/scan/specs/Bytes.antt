-- Document 01, "Reading": sorts of bytes.
use Rattle.std.specs.Prelude.{ℕ, ◌-◌, Bool, ◌&&◌, ◌||◌, leb, eqb}
use Prim.Native.Char.{Char, code}

-- b is the character's byte
abbrev pub is : Char → ℕ → Bool
is c b = eqb b (code c)

-- b is from lo to hi
unfoldable pub within : ℕ → ℕ → ℕ → Bool
within lo hi b = leb lo b && leb b hi

-- "Spaces are bytes 9 to 13 and 32."
unfoldable pub is_space : ℕ → Bool
unfolding within
is_space b = within 9 13 b || eqb b 32

unfoldable pub is_digit : ℕ → Bool
unfolding within
is_digit b = within (code "0") (code "9") b

-- the number that a digit stands for
abbrev pub digit : ℕ → ℕ
digit b = b - code "0"
