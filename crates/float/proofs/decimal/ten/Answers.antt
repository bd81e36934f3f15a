-- `float::decimal::ten` meets its contract: antt computes that the table's literals are the powers of ten.
use Prim.Native.Nat.{ℕ, ◌^◌}
use native.Mathlib.Omega.{arith}
use lib.Ieee.{nan, of_bits}
use Rattle.float.specs.Numbers.{whole}
use Rattle.float.proofs.Table.{entry}
use Rattle.float.proofs.decimal.ten.Goals as goal

pub returns : goal.returns
unfolding of_bits whole
returns c = entry (λ (k : ℕ). whole (10 ^ k)) nan 23 c.args.k (omega arith)
