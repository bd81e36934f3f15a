-- The promise of `read_record`. Document 01, "What each operation refuses": "Reading a record: 13, length not 370; 14, no diagram has it"; document 02, ticket K5: 22.
use Rattle.std.specs.Prelude.{List, ◌≡◌, ℕ, Result}
use Rattle.cd.specs.Diagrams.{limit}
use Rattle.cd.specs.declared.Cd.{Cd}
use Rattle.cd.specs.declared.CdError.{CdError}
use Rattle.parse.specs.Reading.{Reading, answer}
use Rattle.readback.specs.ReadBack.{ReadBack}

-- the diagram, or the refusal, that the bytes are read back as
pub record ReadsRecord (bytes : List ℕ) (r : Result Cd CdError) : Type 0 where
  pub reading : Reading
  pub read_back : ReadBack limit bytes reading
  pub shown : r ≡ answer reading
