-- The promise of `read`. Document 01, "Forged records and readers": "Each call's promise should equate its result, refusal fields and every byte of the buffer
-- with a definition".
use Rattle.std.specs.Prelude.{Bool, false, List, ◌≡◌, ℕ, Result, Ok, Err}
use Rattle.cd.specs.Diagrams.{Stored, cd_of}
use Rattle.cd.specs.Minimal.{Minimal, Decides}
use Rattle.cd.specs.declared.CdError.{CdError}
use Rattle.cd.specs.declared.Node.{Node}
use Rattle.parse.specs.Reading as parse
use Rattle.lexicon.specs.declared.Reading.{Reading}

-- the minimal mark of an accepted text; a refusal has none
abbrev pub Marks : parse.Reading → Bool → Type 0
Marks (parse.Accepted ns es) b = Decides (Minimal ns es) b
Marks (parse.Refused r) b = b ≡ false

-- the diagram with its stored edges and the minimal mark, or the refusal with its fields
pub data Reads (wish : Bool) (text : List ℕ) (r : Result Reading CdError) : Type 0 where
  refused : {e : CdError} → parse.read wish text ≡ parse.Refused e → r ≡ Err e → Reads wish text r
  accepted : {ns : List Node} {es : List Stored} {b : Bool} → parse.read wish text ≡ parse.Accepted ns es → Decides (Minimal ns es) b → r ≡ Ok (record { cd = cd_of ns es; minimal = b }) → Reads wish text r
