-- A program answers an input a block of lines at a time, each block in bytes that it then writes.
use Rattle.std.specs.Prelude.{ℕ, ◌≤◌, List, [], ◌++◌, ◌≡◌, length, drop}
use Rattle.lines.specs.Lines.{lines, Answered}

-- the lines of the input s from `from` on and before `next`, answered in the bytes that wait
pub record IsBlock (Line : List ℕ → List ℕ → Type 0) (s : List ℕ) (from : ℕ) (bytes : List ℕ) (next : ℕ) : Type 0 where
  pub these : List (List ℕ)
  pub front : lines (drop from s) ≡ these ++ lines (drop next s)
  pub answered : Answered Line these bytes

-- blocks one after another, from `from` to the end of the input, and what they write
pub data Blocks (Line : List ℕ → List ℕ → Type 0) (s : List ℕ) : ℕ → List ℕ → Type 0 where
  end : {from : ℕ} → length s ≤ from → Blocks Line s from []
  then : {from next : ℕ} {bytes xs : List ℕ} → IsBlock Line s from bytes next → Blocks Line s next xs → Blocks Line s from (bytes ++ xs)
