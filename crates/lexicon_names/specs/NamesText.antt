-- The promise of `names`. Document 02, ticket K4: "After the text's own refusals it refuses the first component that no name fits (21, its lowest node)."
use Rattle.std.specs.Prelude.{Bool, List, ◌≡◌, ℕ, length, Result, Err}
use Rattle.cd.specs.Diagrams.{Stored}
use Rattle.cd.specs.declared.CdError.{CdError}
use Rattle.cd.specs.declared.Node.{Node}
use Rattle.group_names.specs.Named.{Names}
use Rattle.group_names.specs.declared.Groups.{Groups}
use Rattle.parse.specs.Reading.{Accepted, Refused, read}

-- nothing is free here: of a text there is one answer (proofs/OneAnswer.antt)
pub data NamesText (wish : Bool) (text : List ℕ) (r : Result Groups CdError) : Type 0 where
  refused : {e : CdError} → read wish text ≡ Refused e → r ≡ Err e → NamesText wish text r
  told : {ns : List Node} {es : List Stored} → read wish text ≡ Accepted ns es → Names (length ns) es r → NamesText wish text r
