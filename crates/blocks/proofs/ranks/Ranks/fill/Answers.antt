-- `blocks::Ranks::fill` meets its contract; Invariants.antt has the argument.
use mathlib.Core.Path.{refl}
use native.Mathlib.Omega.{arith}
use native.Mathlib.Nat.{not-suc-le-zero}
use Rattle.cd.specs.Diagrams.{limit}
use Rattle.blocks.specs.Ranks.{table}
use Rattle.blocks.proofs.Ranking.{ranked}
use Rattle.blocks.proofs.ranks.Ranks.fill.Goals as goal

pub loop-u-init : goal.loop-u-init
loop-u-init c = (refl, c.args.self.now.low, λ w h. absurd (not-suc-le-zero h))

pub returns : goal.returns
returns c = (
  c.loop-u.invariant.0,
  ranked c.of-list.result c.args.t.now.count (table limit c.args.t.now.pairs) (table limit c.loop-u.self.pairs) c.of-list.ensures (λ u v hu hv. c.loop-u.invariant.2 u (omega arith) v hv),
)
