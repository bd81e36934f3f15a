-- `records::place` meets its contract.
use mathlib.Core.Path.{◌≡◌, ap}
use Prim.Native.Nat.{◌+◌, ◌-◌, ◌*◌}
use native.Mathlib.Omega.{arith}
use lib.ListN.{take, drop}
use Rattle.cd.specs.Diagrams.{limit}
use Rattle.filing.specs.Records.{record_length}
use Rattle.records.proofs.place.Goals as goal

pub returns : goal.returns
returns c =
    let at = record_length limit * c.args.i in
    let e : at + record_length limit - at ≡ record_length limit = omega arith in
    ap (λ n. take n (drop at c.args.file.now)) e
