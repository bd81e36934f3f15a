-- `shelf::insert` meets its contract: three parts end to end.
use Rattle.shelf.proofs.Putting.{parts_inserted}
use Rattle.shelf.proofs.insert.Goals as goal

pub returns : goal.returns
returns c =
    let s = c.before in
    parts_inserted s.args.file.now s.args.at s.args.bytes.now s.args.out.now s.requires.0 s.requires.1 c.put.ensures c.put-2.ensures c.put-3.ensures
