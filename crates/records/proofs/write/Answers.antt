-- `records::write` meets its contract: the smallest layout is the record, by `proofs/Recorded.antt`.
use Rattle.cd.specs.Diagrams.{limit}
use Rattle.tables.specs.Diagrams.{diagram}
use Rattle.tables.specs.Tables.{entries}
use Rattle.records.proofs.Recorded.{record_written}
use Rattle.records.proofs.write.Goals as goal

pub returns : goal.returns
returns c ns es held k =
    let found = c.smallest-found in
    record_written limit (entries c.of-t.result) (diagram ns es) (c.of-t.ensures.1 ns es held k) k.is found.result.numbering found.ensures.0 found.ensures.1 _ _ c.lay.ensures
