-- Document 02, ticket K5: bytes that `read_record` refuses with 22 have one right record, that of their diagram, and `write_record` gives it to a text exactly when some
-- renumbering carries the text's diagram onto theirs. So a partner mends them by filing the figure's text again, and what is written then is read back. It rests on
-- the promises of the two calls alone. Assumes nothing.
use Rattle.std.specs.Prelude.{Result, Ok, Err}
use mathlib.Core.Bool.{Bool}
use mathlib.Core.List.{List}
use mathlib.Core.Logic.{◌≢◌, ◌↔◌}
use mathlib.Core.Path.{◌≡◌, sym, ap, ◌∙◌, subst}
use Prim.Native.Nat.{ℕ, ◌≤◌}
use lib.ListN.{length, take}
use Rattle.cd.specs.Diagrams.{Stored, limit, cd_of}
use Rattle.cd.specs.declared.Cd.{Cd}
use Rattle.cd.specs.declared.CdError.{CdError}
use Rattle.cd.specs.declared.CdError.TheVariants.{NotSmallest}
use Rattle.cd.specs.declared.Node.{Node}
use Rattle.filing.specs.Diagrams.{Iso}
use Rattle.filing.specs.Readable.{Readable, LaidOut, spelled}
use Rattle.filing.specs.Records.{record_length, IsRecord}
use Rattle.filing.proofs.Filing.{same_record_iff_iso, record_unique}
use Rattle.filing.proofs.Readback.{record_of_laid_out}
use Rattle.filing.proofs.Searching.{record_exists}
use Rattle.parse.specs.Reading.{Accepted, read, answer}
use Rattle.readback.specs.ReadBack.{ReadBack}
use Rattle.readback.specs.Spelled.{nodes_in, edges_in}
use Rattle.readback.proofs.ReadBackLaws.{readable_read, not_smallest_iff}
use Rattle.tables.specs.Diagrams.{diagram}
use Rattle.lexicon.specs.Files.{Files}
use Rattle.lexicon.specs.ReadsRecord.{ReadsRecord}
use Rattle.lexicon.specs.declared.Filed.{Filed}
use Rattle.lexicon.proofs.Answers.{refuses}
use Rattle.lexicon.proofs.Fileable.{accepted_diagram}
use Rattle.lexicon.proofs.OneAnswer.{on_accepted}

-- a wish, a text that is accepted so, a buffer that 12 does not refuse, before and after, and an answer that the promise allows
module _ (v : Bool) (s : List ℕ) (ns : List Node) (es : List Stored) (a a' : List ℕ) (x : Result Filed CdError)
    (accepted : read v s ≡ Accepted ns es) (long : record_length limit ≤ length a) (files : Files v s a a' x) where
  wrote : IsRecord limit (diagram ns es) (take (record_length limit) a')
  wrote = (on_accepted files accepted long).written.bytes

  -- what is written is read back as a diagram
  pub written_read : (r : Result Cd CdError) → ReadsRecord (take (record_length limit) a') r → (cd : Cd) × (r ≡ Ok cd)
  unfolding answer
  written_read r reads =
      let readable : Readable limit (take (record_length limit) a') = (diagram ns es, accepted_diagram v s ns es accepted, wrote) in
      let record_bytes = take (record_length limit) a' in
      (cd_of (nodes_in record_bytes) (edges_in limit record_bytes), reads.shown ∙ ap answer (readable_read readable reads.read_back))

-- bytes that are refused with 22
module _ (bytes : List ℕ) (r : Result Cd CdError) (reads : ReadsRecord bytes r) (refused : r ≡ Err NotSmallest) where
  why : LaidOut limit bytes × (Readable limit bytes → ⊥)
  why = (not_smallest_iff limit bytes).0 (subst (ReadBack limit bytes) (refuses reads.reading NotSmallest (sym refused ∙ reads.shown)) reads.read_back)

  -- they tell a figure, as the layout of a diagram
  pub misnumbered : LaidOut limit bytes
  misnumbered = why.0

  abbrev pub right : List ℕ
  right = (record_exists limit (spelled limit bytes)).0

  -- every diagram that is laid out as these bytes has it for its record, and no other
  pub right_record : (d : LaidOut limit bytes) → IsRecord limit d.of right
  right_record d = record_of_laid_out d (record_exists limit (spelled limit bytes)).1

  pub only_right : (d : LaidOut limit bytes) (bs : List ℕ) → IsRecord limit d.of bs → bs ≡ right
  only_right d bs is = record_unique is (right_record d)

  pub not_right : bytes ≢ right
  not_right e = why.1 (misnumbered.of, misnumbered.is, subst (IsRecord limit misnumbered.of) (sym e) (right_record misnumbered))

  -- MENDING: a text that is accepted, filed as above, gets the right record exactly when some renumbering carries its diagram onto theirs
  pub mended : (d : LaidOut limit bytes) (v : Bool) (s : List ℕ) (ns : List Node) (es : List Stored) (a a' : List ℕ) (x : Result Filed CdError)
      → read v s ≡ Accepted ns es → record_length limit ≤ length a → Files v s a a' x → (take (record_length limit) a' ≡ right) ↔ Iso (diagram ns es) d.of
  mended d v s ns es a a' x accepted long files =
      same_record_iff_iso limit (accepted_diagram v s ns es accepted) d.is (wrote v s ns es a a' x accepted long files) (right_record d)
