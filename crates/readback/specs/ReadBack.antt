-- Document 01, "What each operation refuses": "Reading a record: 13, length not 370; 14, no diagram has it. (Diagrams here may hold any value but nan.)" Document 02,
-- ticket K5: "From now on 14 means that the bytes are not what the filing section lays out for any diagram in any numbering .. It refuses a well laid out record
-- that isn't the smallest of its renumberings with 22, tested after 14".
use Rattle.std.specs.Prelude.{List, ◌≢◌, ◌≡◌, ℕ, length}
use Rattle.cd.specs.declared.CdError.TheVariants.{RecordLength, NoDiagram, NotSmallest}
use Rattle.filing.specs.Diagrams.{IsDiagram}
use Rattle.filing.specs.Readable.{LaidOut}
use Rattle.filing.specs.Records.{record_length, IsRecord}
use Rattle.parse.specs.Reading.{Reading, Accepted, Refused}
use Rattle.tables.specs.Diagrams.{diagram}
use Rattle.readback.specs.Spelled.{nodes_in, edges_in}

-- what bytes are read back as; "and that diagram's record is the same bytes"
pub data ReadBack (N : ℕ) (l : List ℕ) : Reading → Type 0 where
  wrong_length : length l ≢ record_length N → ReadBack N l (Refused RecordLength)
  no_diagram : length l ≡ record_length N → (LaidOut N l → ⊥) → ReadBack N l (Refused NoDiagram)
  not_smallest : (d : LaidOut N l) → (IsRecord N d.of l → ⊥) → ReadBack N l (Refused NotSmallest)
  record_of : IsDiagram N (diagram (nodes_in l) (edges_in N l)) → IsRecord N (diagram (nodes_in l) (edges_in N l)) l → ReadBack N l (Accepted (nodes_in l) (edges_in N l))
