-- Document 01, "Filing record": "The call also returns a numbering (for each new place its old node) that gives the record", of which document 02, ticket K9,
-- says which one.
use Rattle.std.specs.Prelude.{List, ◌≡◌, ℕ, take, drop}
use Rattle.filing.specs.Diagrams.{Diagram}
use Rattle.filing.specs.First.{First}
use Rattle.filing.specs.Numberings.{plain}
use Rattle.filing.specs.Records.{record_length, IsRecord}

-- from out to out' the record of a diagram was written; "an output buffer keeps its bytes past what was written". The numbering p begins with the first list of
-- old nodes that gives the record; past the nodes' places it is the plain one.
pub record Written (N : ℕ) (d : Diagram) (out out' p : List ℕ) : Type 0 where
  pub bytes : IsRecord N d (take (record_length N) out')
  pub rest : drop (record_length N) out' ≡ drop (record_length N) out
  pub first : First N d (take (record_length N) out') (take d.size p)
  pub spare : drop d.size p ≡ drop d.size (plain N)
