-- `readback::bits_at` meets its contract.
use mathlib.Core.Path.{◌∙◌, ap}
use Prim.Native.Nat.{◌+◌, ◌*◌}
use native.Mathlib.Omega.{arith}
use Rattle.std.specs.Int.{w64, from_be_bytes}
use Rattle.readback.proofs.Nodes.{bits_read}
use Rattle.readback.proofs.Numbers.{eight_read}
use Rattle.readback.proofs.bits_at.Goals as goal

pub returns : goal.returns
returns c =
    let l = c.args.s.now in
    c.from_be_bytes.ensures ∙ ap (from_be_bytes w64) c.bytes_at.ensures ∙ eight_read l (2 + 9 * c.args.i) (omega arith) ∙ bits_read l c.args.i
