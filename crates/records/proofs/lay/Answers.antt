-- `records::lay` meets its contract: the parts fill the zeros behind the count.
use Rattle.cd.specs.Diagrams.{limit}
use Rattle.filing.specs.Numberings.{at}
use Rattle.tables.specs.Tables.{entries}
use Rattle.records.proofs.Layouts.{layout_written}
use Rattle.records.proofs.lay.Goals as goal

pub returns : goal.returns
returns c = let a = c.args in cc (layout_written limit (entries a.t.now) (at a.p.now) a.t.now.few a.out.now)
