-- `shelf::is_readable` meets its contract: reading decides it.
use Rattle.shelf.proofs.Tested.{read_decides}
use Rattle.shelf.proofs.is_readable.Goals as goal

pub returns : goal.returns
returns c = rw c.is_ok.ensures.value (read_decides c.read_record.result c.read_record.ensures)
