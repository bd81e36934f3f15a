-- `readback::edge_at` meets its contract.
use mathlib.Core.Path.{◌∙◌, ap, ap₂}
use Prim.Native.Nat.{◌+◌}
use native.Mathlib.Omega.{arith}
use Rattle.std.specs.Int.{w32, from_be_bytes}
use Rattle.filing.specs.Readable.{fraction_at}
use Rattle.readback.proofs.Numbers.{four_read}
use Rattle.readback.proofs.edge_at.Goals as goal

pub returns : goal.returns
unfolding fraction_at
returns c =
    let l = c.args.s.now in
    let k = c.args.k in
    ap₂ (λ n d. record { num = n; den = d })
    (c.from_be_bytes.ensures ∙ ap (from_be_bytes w32) c.bytes_at.ensures ∙ four_read l k (omega arith))
    (c.from_be_bytes-2.ensures ∙ ap (from_be_bytes w32) c.bytes_at-2.ensures ∙ four_read l (k + 4) (omega arith))
