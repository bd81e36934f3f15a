-- Document 02, ticket K9: "Of all numberings that give the record, return the first, comparing the list of old nodes in new order as numbers from the left."
use Rattle.std.specs.Prelude.{List, ◌≡◌, ℕ, length}
use Rattle.filing.specs.Bytes.{◌≼◌}
use Rattle.filing.specs.Diagrams.{Diagram}
use Rattle.filing.specs.Numberings.{Numbering, at}
use Rattle.filing.specs.Records.{layout}

-- "the list of old nodes in new order": old has for each place the node that goes there, and so numbered the diagram is laid out as these bytes
pub record Gives (N : ℕ) (d : Diagram) (bs old : List ℕ) : Type 0 where
  pub long : length old ≡ d.size
  pub valid : Numbering d.size (at old)
  pub laid : bs ≡ layout N d (at old)

-- "the first, comparing .. as numbers from the left": the first differing number decides
pub record First (N : ℕ) (d : Diagram) (bs old : List ℕ) : Type 0 where
  pub gives : Gives N d bs old
  pub least : (other : List ℕ) → Gives N d bs other → old ≼ other
