-- `normals::cosine` meets its contract: for walls the cosine is negated.
use Rattle.normals.proofs.Columns.{cosine_made}
use Rattle.normals.proofs.cosine.Goals as goal

pub returns-then-walls : goal.returns-then-walls
returns-then-walls c = rw c.if-walls.true (cosine_made _ _ _ c.fcos-c.ensures)

pub returns-else-walls : goal.returns-else-walls
returns-else-walls c = rw c.if-walls.false (cosine_made _ _ _ c.fcos-c.ensures)
