-- The promise of `write_record`. Document 01, "What each operation refuses": "Writing a record: the text's, then 12, a buffer shorter than 370. In every
-- call, an output buffer keeps its bytes past what was written", and "A refusal .. leaves an output buffer untouched".
use Rattle.std.specs.Prelude.{Bool, List, ◌≡◌, ℕ, ◌≤◌, ◌<◌, length, Result, Ok, Err}
use Rattle.cd.specs.Diagrams.{Stored, limit}
use Rattle.cd.specs.declared.CdError.{CdError}
use Rattle.cd.specs.declared.CdError.TheVariants.{ShortBuffer}
use Rattle.cd.specs.declared.Node.{Node}
use Rattle.filing.specs.Records.{record_length}
use Rattle.parse.specs.Reading.{Accepted, Refused, read}
use Rattle.records.specs.Written.{Written}
use Rattle.tables.specs.Diagrams.{diagram}
use Rattle.lexicon.specs.declared.Filed.{Filed}

-- of a wish, a text, and a buffer before and after the call, the answer that the call gives: there is only one (proofs/OneAnswer.antt)
pub data Files (wish : Bool) (text out out' : List ℕ) (r : Result Filed CdError) : Type 0 where
  refused : {e : CdError} → read wish text ≡ Refused e → r ≡ Err e → out' ≡ out → Files wish text out out' r
  short : {ns : List Node} {es : List Stored} → read wish text ≡ Accepted ns es → length out < record_length limit → r ≡ Err ShortBuffer → out' ≡ out → Files wish text out out' r
  filed : {ns : List Node} {es : List Stored} {f : Filed} → read wish text ≡ Accepted ns es → record_length limit ≤ length out → r ≡ Ok f → f.count ≡ length ns → Written limit (diagram ns es) out out' f.numbering → Files wish text out out' r
