-- Ticket K5's law of mending, of the calls for C: bytes for which `lexicon_read_record` returns 22 have one right record, and a call of `lexicon_write_record` that returns
-- 0 has written it exactly when some renumbering carries the text's diagram onto theirs. It rests on the promises `ReadsRecordForC` and `FilesForC` alone. Assumes nothing.
use Rattle.std.specs.Prelude.{Result, Ok, Err}
use mathlib.Core.Bool.{Bool, true, false}
use mathlib.Core.List.{List}
use mathlib.Core.Logic.{◌↔◌}
use mathlib.Core.Path.{◌≡◌, refl, sym, ap, ◌∙◌}
use Prim.Native.Nat.{ℕ}
use native.Mathlib.Omega.{arith}
use lib.Dec.{ltb}
use lib.ListN.{length, get_or, take}
use Rattle.float.specs.Pick.{pick}
use Rattle.cd.specs.Arrays.{padded}
use Rattle.cd.specs.Diagrams.{limit}
use Rattle.cd.specs.Refusals.{number_of}
use Rattle.cd.specs.declared.CdError.{CdError}
use Rattle.cd.specs.declared.CdError.TheVariants.{TooLong, NotAscii, MismatchedParenthesis, UnexpectedEnding, ParseError, InvalidSymbol, InvalidEdge, RepeatEdge, OutOfRange, TooManyNodes, MissingNode, ShortBuffer, RecordLength, NoDiagram, Crowded, Infinite, NoFamily, ShelfLength, ShelfPlace, OnShelf, NoName, NotSmallest, InfiniteLength}
use Rattle.filing.specs.Diagrams.{Iso}
use Rattle.filing.specs.Readable.{LaidOut}
use Rattle.filing.specs.Records.{record_length}
use Rattle.lent.specs.Outcomes.{Shows, Refuses, outcome, fitted, told}
use Rattle.lexicon.proofs.Mending as lexicon
use Rattle.tables.specs.Diagrams.{diagram}
use Rattle.lexicon_c.specs.Calls.{FilesForC, ReadsRecordForC}
use Rattle.lexicon_c.proofs.Demand3.{returned_0}

-- no other refusal has the number 22
only_22 : (e : CdError) → get_or (padded 0 4 (number_of e)) 0 0 ≡ 22 → e ≡ NotSmallest
unfolding padded number_of
only_22 (TooLong p) h = absurd (omega arith)
only_22 (NotAscii p) h = absurd (omega arith)
only_22 (MismatchedParenthesis p) h = absurd (omega arith)
only_22 (UnexpectedEnding p) h = absurd (omega arith)
only_22 (ParseError p) h = absurd (omega arith)
only_22 (InvalidSymbol p) h = absurd (omega arith)
only_22 (InvalidEdge n d p) h = absurd (omega arith)
only_22 (RepeatEdge a b) h = absurd (omega arith)
only_22 (OutOfRange p) h = absurd (omega arith)
only_22 (TooManyNodes p) h = absurd (omega arith)
only_22 (MissingNode k) h = absurd (omega arith)
only_22 ShortBuffer h = absurd (omega arith)
only_22 RecordLength h = absurd (omega arith)
only_22 NoDiagram h = absurd (omega arith)
only_22 (Crowded k) h = absurd (omega arith)
only_22 (Infinite k) h = absurd (omega arith)
only_22 NoFamily h = absurd (omega arith)
only_22 ShelfLength h = absurd (omega arith)
only_22 (ShelfPlace p) h = absurd (omega arith)
only_22 (OnShelf p) h = absurd (omega arith)
only_22 (NoName k) h = absurd (omega arith)
only_22 NotSmallest h = refl
only_22 (InfiniteLength p) h = absurd (omega arith)

shown_22 : {A : Type 0} (short : Bool) (fs : List ℕ) (xs : List A) → get_or (told (pick short (Refuses ShortBuffer) (Shows fs xs))) 0 0 ≡ 22 → ⊥
unfolding told padded number_of
shown_22 true fs xs h = omega arith
shown_22 false fs xs h = omega arith

answered_22 : {A B : Type 0} (f : A → List ℕ) (g : A → List B) (a : Result A CdError) (n : ℕ) → get_or (told (fitted n (outcome f g a))) 0 0 ≡ 22 → a ≡ Err NotSmallest
unfolding told fitted outcome
answered_22 f g (Ok x) n h = absurd (shown_22 (ltb n (length (g x))) (f x) (g x) h)
answered_22 f g (Err e) n h = ap Err (only_22 e h)

-- a call that returns 22
module _ (bytes out out' answer' : List ℕ) (n : ℕ) (reads : ReadsRecordForC bytes out out' answer' n) (n-22 : n ≡ 22) where
  pub refused : reads.read ≡ Err NotSmallest
  refused =
      let l = reads.lends in
      answered_22 _ _ reads.read (length out) (ap (λ u. get_or u 0 0) (sym l.answer) ∙ sym l.returned ∙ n-22)

  abbrev pub right : List ℕ
  right = lexicon.right bytes reads.read reads.reads refused

  -- and one that returns 0
  pub mended : (d : LaidOut limit bytes) (w : Bool) (text a a' p p' u : List ℕ) (m : ℕ) (files : FilesForC w text a a' p p' u m) (m-0 : m ≡ 0)
      → (take (record_length limit) a' ≡ right) ↔ Iso (diagram (returned_0 files m-0).nodes (returned_0 files m-0).edges) d.of
  mended d w text a a' p p' u m files m-0 =
      let f = returned_0 files m-0 in
      lexicon.mended bytes reads.read reads.reads refused d w text f.nodes f.edges a a' files.filed f.accepted f.long files.files
