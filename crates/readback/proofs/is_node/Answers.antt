-- `readback::is_node` meets its contract: a law of proofs/Nodes.antt for each kind.
use mathlib.Core.Path.{sym, ◌∙◌}
use native.Mathlib.Omega.{arith}
use Rattle.readback.proofs.Nodes.{decides_unringed, decides_valued, decides_none, kind_read}
use Rattle.readback.proofs.is_node.Goals as goal

pub returns-in-1 : goal.returns-in-1
returns-in-1 c = rw c.bits_at-bits.ensures (decides_unringed _ (sym (kind_read _ _) ∙ c.in-1.is))

pub returns-in-2 : goal.returns-in-2
returns-in-2 c =
    let e = c.bits_at-bits.ensures in
    let k = kind_read c.args.s.now c.args.i in
    rw (c.is_number.ensures, e) (decides_valued _ (omega arith) (omega arith) (omega arith))

pub returns-in_default : goal.returns-in_default
returns-in_default c = decides_none _ (λ low high. omega (arith, kind_read c.args.s.now c.args.i))

pub returns-in_default-2 : goal.returns-in_default-2
returns-in_default-2 c = decides_none _ (λ low high. omega (arith, kind_read c.args.s.now c.args.i))
