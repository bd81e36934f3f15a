-- `readback::node_at` meets its contract: a law of proofs/Nodes.antt for each kind, and a node's bits are no nan's.
use mathlib.Core.Path.{sym, ◌∙◌}
use native.Mathlib.Omega.{arith}
use Rattle.readback.proofs.Nodes.{node_unringed, node_ringed, node_snub, kind_read}
use Rattle.readback.proofs.node_at.Goals as goal

pub returns-in-1 : goal.returns-in-1
returns-in-1 c = node_unringed _ (sym (kind_read _ _) ∙ c.in-1.is)

pub returns-in-2 : goal.returns-in-2
returns-in-2 c = rw c.bits_at-bits.ensures (node_ringed _ (sym (kind_read _ _) ∙ c.in-2.is))

pub returns-in_default : goal.returns-in_default
returns-in_default c =
    let k = kind_read c.args.s.now c.args.i in
    rw c.bits_at-bits.ensures (node_snub _ (λ e. omega arith) (λ e. omega arith))
