-- `blocks::Ranks::new` keeps the type's promises: zeros are below the base.
use Prim.Native.Nat.{◌*◌}
use native.Mathlib.Omega.{arith}
use Rattle.cd.specs.Diagrams.{limit}
use Rattle.blocks.specs.Blocks.{base}
use Rattle.blocks.proofs.Rows.{zeros_low}
use Rattle.blocks.proofs.ranks.Ranks.new.Goals as goal

pub invariant_of-result : goal.invariant_of-result
invariant_of-result c = record { few = omega arith; low = zeros_low base (limit * limit) (omega arith) }
