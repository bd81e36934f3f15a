-- Demand 3: "For any two accepted texts, whatever the buffers held before, the two records written are the same, byte for byte, exactly when some renumbering
-- carries one text's diagram onto the other's"; document 02, K6: "the filing claim covers texts accepted either way", so each text has a wish of its own. It rests on the promise of `write_record` alone, and on the filing theorem. With ticket K9's numberings, which
-- node of one text corresponds to which of the other. Assumes nothing.
use Rattle.std.specs.Prelude.{Result, Ok}
use mathlib.Core.Bool.{Bool}
use mathlib.Core.List.{List}
use mathlib.Core.Logic.{◌↔◌}
use mathlib.Core.Path.{◌≡◌, sym, ◌∙◌}
use Prim.Native.Nat.{ℕ, ◌≤◌, ◌<◌}
use lib.ListN.{length, take}
use Rattle.cd.specs.Diagrams.{Stored, limit}
use Rattle.cd.specs.declared.CdError.{CdError}
use Rattle.cd.specs.declared.Node.{Node}
use Rattle.filing.specs.Diagrams.{Carries, Iso}
use Rattle.filing.specs.Numberings.{at}
use Rattle.filing.specs.Records.{record_length}
use Rattle.filing.proofs.Filing as theorem
use Rattle.parse.specs.Reading.{Accepted, read}
use Rattle.records.proofs.Written.{written_numbers, written_gives}
use Rattle.tables.specs.Diagrams.{diagram}
use Rattle.lexicon.specs.Files.{Files}
use Rattle.lexicon.specs.declared.Filed.{Filed}
use Rattle.lexicon.proofs.Fileable.{accepted_diagram}
use Rattle.lexicon.proofs.OneAnswer.{Accepts, on_accepted}

-- two wishes, and two texts that are accepted so; two buffers that 12 does not refuse, before and after; and two answers that the promise allows
module _ (v w : Bool) (s t : List ℕ) (ns ms : List Node) (es fs : List Stored) (a a' b b' : List ℕ) (x y : Result Filed CdError)
    (accepted-s : read v s ≡ Accepted ns es) (accepted-t : read w t ≡ Accepted ms fs)
    (long-a : record_length limit ≤ length a) (long-b : record_length limit ≤ length b)
    (files-s : Files v s a a' x) (files-t : Files w t b b' y) where
  files_s : Accepts ns es a a' x
  files_s = on_accepted files-s accepted-s long-a

  files_t : Accepts ms fs b b' y
  files_t = on_accepted files-t accepted-t long-b

  -- no two figures are filed together
  pub no_false_match : take (record_length limit) a' ≡ take (record_length limit) b' → Iso (diagram ns es) (diagram ms fs)
  no_false_match = theorem.no_false_match limit (accepted_diagram v s ns es accepted-s) (accepted_diagram w t ms fs accepted-t) files_s.written.bytes files_t.written.bytes

  -- no two spellings of one figure are filed apart
  pub no_missed_match : Iso (diagram ns es) (diagram ms fs) → take (record_length limit) a' ≡ take (record_length limit) b'
  no_missed_match = theorem.no_missed_match limit (accepted_diagram v s ns es accepted-s) (accepted_diagram w t ms fs accepted-t) files_s.written.bytes files_t.written.bytes

  pub demand_3 : (take (record_length limit) a' ≡ take (record_length limit) b') ↔ Iso (diagram ns es) (diagram ms fs)
  demand_3 = (no_false_match, no_missed_match)

  -- which node is which: both texts are filed, and some renumbering that carries one diagram onto the other sends the node that one numbering has at a place to
  -- the node that the other has there
  pub nodes_correspond : take (record_length limit) a' ≡ take (record_length limit) b'
      → (p : Filed) × (q : Filed) × (x ≡ Ok p) × (y ≡ Ok q)
      × (f : ℕ → ℕ) × Carries (diagram ns es) (diagram ms fs) f × ((i : ℕ) → i < length ns → f (at p.numbering i) ≡ at q.numbering i)
  unfolding diagram
  nodes_correspond same =
      let (f, c, to) =
      theorem.places_correspond limit (accepted_diagram v s ns es accepted-s) (accepted_diagram w t ms fs accepted-t) (written_numbers files_s.written) (written_numbers files_t.written)
      (sym (written_gives files_s.written) ∙ same ∙ written_gives files_t.written) in
      (files_s.filing, files_t.filing, files_s.is, files_t.is, f, c, to)
