-- `cdlist::line` meets its contract: what is written is the answer to the text's reading, and LF.
use Rattle.std.proofs.Common.{◌≡◌, ℕ, List, Bool, false, Result, refl}
use Rattle.std.specs.Result.{MatchResult}
use Rattle.arrayvec.specs.ArrayVec.{ArrayVec, Extends}
use Rattle.cd.specs.Diagrams.{Stored, cd_of}
use Rattle.cd.specs.declared.CdError.{CdError}
use Rattle.cd.specs.declared.Node.{Node}
use Rattle.lexicon.specs.Answers.{answer_of}
use Rattle.lexicon.specs.Reads.{Reads, refused, accepted}
use Rattle.lexicon.specs.declared.Reading.{Reading}
use Rattle.lines.proofs.Writing.{adds_then}
use Rattle.lines.specs.Written.{AddsLine}
use Rattle.parse.specs.Reading.{Accepted, Refused}
use Rattle.scan.specs.Ascii.{ascii}
use Rattle.cdlist.specs.Lists.{Listed}
use Rattle.cdlist.proofs.line.Goals as goal

listed : {wish : Bool} {text : List ℕ} {r : Result Reading CdError} (a b c : ArrayVec ℕ) → Reads wish text r
    → MatchResult r (λ r. (ns : List Node) (es : List Stored) → r.cd ≡ cd_of ns es → Extends a (answer_of (Accepted ns es) r.minimal) b) (λ e. (m : Bool) → Extends a (answer_of (Refused e) m) b)
    → Extends b (ascii "\n") c → AddsLine (Listed wish) text a c
listed a b c (refused k e) h p = record {
  bytes = _;
  allowed = record { minimal = false; mark = rw k refl; line = refl };
  added = rw k (adds_then _ _ _ ((rw e at h) false) p);
}
listed a b c (accepted {ns = ns} {es = es} {b = m} k d e) h p = record {
  bytes = _;
  allowed = record { minimal = m; mark = rw k d; line = refl };
  added = rw k (adds_then _ _ _ ((rw e at h) ns es refl) p);
}

pub returns-clause-added : goal.returns-clause-added
unfolding ascii
returns-clause-added c = listed _ _ _ c.read-r.ensures c.put_answer.ensures.added c.push.ensures.items
