-- What `cdlist` writes on an input: the blocks that it writes, put together, are the whole output, which is one only. Document 01's example. Assumes nothing.
use Prim.Native.Nat.{ℕ}
use mathlib.Core.Bool.{Bool, false}
use mathlib.Core.List.{List, ◌++◌}
use mathlib.Core.Path.{◌≡◌, refl, ap, ◌∙◌, sym}
use Rattle.lexicon.specs.Answers.{answer_of}
use Rattle.lexicon.specs.Texts.{RightEntry, Entry, texts}
use Rattle.lexicon.proofs.Marks.{marked_once}
use Rattle.lexicon.proofs.TextsRight.{told, text_right}
use Rattle.lines.specs.Blocks.{Blocks}
use Rattle.lines.specs.Lines.{lines, begun, none, more}
use Rattle.lines.proofs.Blocks.{blocks_answer, answered_once}
use Rattle.parse.specs.Reading.{read}
use Rattle.scan.specs.Ascii.{ascii}
use Rattle.cdlist.specs.Lists.{Listed, Lists}

pub blocks_list : {wish : Bool} {input output : List ℕ} → Blocks (Listed wish) input 0 output → Lists wish input output
blocks_list b = blocks_answer b

listed_once : (wish : Bool) (text x y : List ℕ) → Listed wish text x → Listed wish text y → x ≡ y
listed_once wish text x y a b = a.line ∙ ap (λ m. answer_of (read wish text) m ++ ascii "\n") (marked_once (read wish text) a.minimal b.minimal a.mark b.mark) ∙ sym b.line

pub one_listing : (wish : Bool) (input : List ℕ) {x y : List ℕ} → Lists wish input x → Lists wish input y → x ≡ y
one_listing wish input a b = answered_once (listed_once wish) a b

-- ---- document 01's example

entry_listed : {e : Entry} → RightEntry e → Listed e.wish (ascii e.text) (ascii e.line ++ ascii "\n")
entry_listed {e} r = record { minimal = e.minimal; mark = r.mark; line = ap (λ l. l ++ ascii "\n") (sym r.line) }

pub example_listed : Lists false (ascii "x4o3o\nx5/3/2o\nx3*a\nx1o\n\nx3o3*a\n") (ascii "ok 3 2 1\nok 2 1 1\nok 1 1 1\nno 7 1 1 1\nno 4 0\nno 8 1 0\n")
unfolding lines begun ascii told texts
example_listed =
    more (entry_listed (text_right "x4o3o" refl)) (
    more (entry_listed (text_right "x5/3/2o" refl)) (
    more (entry_listed (text_right "x3*a" refl)) (
    more (entry_listed (text_right "x1o" refl)) (
    more (entry_listed (text_right "" refl)) (
    more (entry_listed (text_right "x3o3*a" refl)) none)))))
