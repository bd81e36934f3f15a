-- Document 02, K6: "Reading should turn infinite lengths down by default." A program reads with the wish for them if its one argument is `--infinite`.
use Rattle.std.specs.Prelude.{ℕ, Bool, true, false, List, ltb, Option, Some, None}
use Rattle.float.specs.Pick.{pick}
use Rattle.length.specs.Literals.{is_word}
use Rattle.scan.specs.Ascii.{ascii}

-- of how many words a program was started with, its own name among them, and of the first that follows that: the wish, if the arguments are known
unfoldable pub argument_of : ℕ → List ℕ → Option Bool
unfolding is_word
argument_of count word =
    let b = is_word word (ascii "--infinite") in
    pick (ltb count 2) (Some false) (pick (ltb 2 count) None (pick b (Some true) None))
