-- Document 01, "Texts to try": the program `cdlist` "reads the first 65,536 bytes of standard input and no more, a text a line". What it writes on them.
use Rattle.std.specs.Prelude.{ℕ, ◌+◌, ◌*◌, Bool, List, ◌++◌, ◌≡◌}
use Rattle.lexicon.specs.Answers.{answer_of}
use Rattle.lexicon.specs.Reads.{Marks}
use Rattle.lines.specs.Lines.{lines, Answered}
use Rattle.parse.specs.Reading.{read}
use Rattle.scan.specs.Ascii.{ascii}

-- the most bytes that are written on a text: `ok` or `no`, four figures of at most 20 digits, each after a space, and LF
abbrev pub longest : ℕ
longest = 2 + 4 * 21 + 1

-- what is written on a text, with "LF after each line"
pub record Listed (wish : Bool) (text bytes : List ℕ) : Type 0 where
  pub minimal : Bool
  pub mark : Marks (read wish text) minimal
  pub line : bytes ≡ answer_of (read wish text) minimal ++ ascii "\n"

-- the whole output on an input
abbrev pub Lists : Bool → List ℕ → List ℕ → Type 0
Lists wish input output = Answered (Listed wish) (lines input) output
