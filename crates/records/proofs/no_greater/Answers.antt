-- `records::no_greater` meets its contract: the library's order of lists.
use Rattle.search.proofs.Lists.{le_decides}
use Rattle.records.proofs.no_greater.Goals as goal

pub returns : goal.returns
returns c = rw c.le.ensures (le_decides c.args.a.now c.args.b.now)
