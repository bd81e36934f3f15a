-- Document 01, "Texts to try": "It writes `ok`, nodes, stored edges, minimal 1 or 0; or `no`, number, fields in the order given above;
-- figures in decimal, one space between".
use Rattle.std.specs.Prelude.{ℕ, zero, suc, ◌+◌, ◌/◌, ◌%◌, Bool, List, [], ◌∷◌, ◌++◌, ltb, length}
use Prim.Native.Char.{code}
use Rattle.float.specs.Pick.{pick}
use Rattle.cd.specs.Refusals.{number_of}
use Rattle.parse.specs.Reading.{Reading, Accepted, Refused}
use Rattle.scan.specs.Ascii.{ascii}

-- a digit's byte
abbrev pub glyph : ℕ → ℕ
glyph d = code "0" + d

-- n in decimal, in at most k digits
unfoldable pub in_digits : ℕ → ℕ → List ℕ
in_digits zero n = []
in_digits (suc k) n = let front = in_digits k (n / 10) in pick (ltb n 10) (glyph n ∷ []) (front ++ (glyph (n % 10) ∷ []))

-- 20 digits hold any number of 64 bits
unfoldable pub numeral : ℕ → List ℕ
unfolding in_digits
numeral n = in_digits 20 n

-- each number after a space
unfoldable pub spaced : List ℕ → List ℕ
spaced [] = []
spaced (n ∷ ns) = (code " " ∷ numeral n) ++ spaced ns

-- what is written on a text, but for the LF
unfoldable pub answer_of : Reading → Bool → List ℕ
unfolding spaced
answer_of (Accepted ns es) minimal = ascii "ok" ++ spaced (length ns ∷ length es ∷ pick minimal 1 0 ∷ [])
answer_of (Refused e) minimal = ascii "no" ++ spaced (number_of e)
