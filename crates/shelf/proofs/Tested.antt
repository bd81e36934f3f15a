-- What an answer of the reader of records tells of the bytes. Assumes nothing.
use Rattle.std.specs.Prelude.{Result, Ok, Err}
use Rattle.std.specs.Result.{is_ok}
use mathlib.Core.List.{List}
use mathlib.Core.Path.{◌≡◌, refl, subst}
use Prim.Native.Nat.{ℕ}
use lib.ListN.{length}
use Rattle.cd.specs.Diagrams.{Stored, limit}
use Rattle.cd.specs.Minimal.{Decides}
use Rattle.cd.specs.declared.Cd.{Cd}
use Rattle.cd.specs.declared.CdError.{CdError}
use Rattle.cd.specs.declared.Node.{Node}
use Rattle.cd.proofs.Decided.{decides_yes, decides_no}
use Rattle.filing.specs.Readable.{Readable}
use Rattle.filing.specs.Records.{record_length}
use Rattle.filing.proofs.Readback.{readable_laid_out}
use Rattle.lexicon.specs.ReadsRecord.{ReadsRecord}
use Rattle.lexicon.proofs.Answers.{accepts, refuses}
use Rattle.lexicon.proofs.OneAnswer.{not_both}
use Rattle.parse.specs.Reading.{Reading, Accepted, Refused}
use Rattle.readback.specs.ReadBack.{ReadBack, wrong_length, no_diagram, not_smallest, record_of}
use Rattle.readback.proofs.ReadBackLaws.{laid_out_length, readable_read}

-- ---- records read

module _ {N : ℕ} {l : List ℕ} where
  pub readable_length : Readable N l → length l ≡ record_length N
  readable_length r = laid_out_length N l (readable_laid_out r)

  accepted_readable : {x : Reading} {ns : List Node} {es : List Stored} → ReadBack N l x → x ≡ Accepted ns es → Readable N l
  accepted_readable (wrong_length n) h = absurd (not_both refl h)
  accepted_readable (no_diagram e n) h = absurd (not_both refl h)
  accepted_readable (not_smallest d n) h = absurd (not_both refl h)
  accepted_readable (record_of w r) h = (_, w, r)

  pub refused_unreadable : {e : CdError} → ReadBack N l (Refused e) → Readable N l → ⊥
  refused_unreadable b r = not_both refl (readable_read r b)

-- what `read_record` promises of bytes that it accepts, and of those that it refuses
module _ {l : List ℕ} where
  pub accepted_read : {cd : Cd} → ReadsRecord l (Ok cd) → Readable limit l
  accepted_read {cd} reads = accepted_readable reads.read_back (accepts reads.reading cd reads.shown).is

  pub refused_read : {e : CdError} → ReadsRecord l (Err e) → ReadBack limit l (Refused e)
  refused_read {e} reads = subst (ReadBack limit l) (refuses reads.reading e reads.shown) reads.read_back

  pub read_decides : (r : Result Cd CdError) → ReadsRecord l r → Decides (Readable limit l) (is_ok r)
  read_decides (Ok cd) reads = decides_yes (accepted_read reads)
  read_decides (Err e) reads = decides_no (refused_unreadable (refused_read reads))
