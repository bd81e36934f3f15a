-- `readback::read_edges` meets its contract; Invariants.antt has the argument.
use Rattle.readback.proofs.StoredEdges.{none_read}
use Rattle.readback.proofs.read_edges.Goals as goal

pub loop-j-init : goal.loop-j-init
loop-j-init c = none_read _ _
