-- Document 01, "Texts to try": "a text a line; LF ends a line, and a last line may lack it". What a program writes on an input.
use Rattle.std.specs.Prelude.{ℕ, ◌+◌, List, [], ◌∷◌, ◌++◌}
use Rattle.float.specs.Pick.{pick}
use Rattle.scan.specs.Bytes.{is}

-- the first line begins with the byte b
unfoldable pub begun : ℕ → List (List ℕ) → List (List ℕ)
begun b [] = (b ∷ []) ∷ []
begun b (l ∷ ls) = (b ∷ l) ∷ ls

-- the lines of an input, in order
unfoldable pub lines : List ℕ → List (List ℕ)
unfolding begun
lines [] = []
lines (b ∷ bs) = let ls = lines bs in pick (is "\n" b) ([] ∷ ls) (begun b ls)

-- what is written on lines, in order: on each what `Line` allows
pub data Answered (Line : List ℕ → List ℕ → Type 0) : List (List ℕ) → List ℕ → Type 0 where
  none : Answered Line [] []
  more : {l x : List ℕ} {ls : List (List ℕ)} {xs : List ℕ} → Line l x → Answered Line ls xs → Answered Line (l ∷ ls) (x ++ xs)

-- ---- a step of the code

-- of bytes that start at place i, the place of the first LF, or of their end
unfoldable pub line_end : List ℕ → ℕ → ℕ
line_end [] i = i
line_end (b ∷ bs) i = let r = line_end bs (i + 1) in pick (is "\n" b) i r
