-- The families' numbers are the same in both orders. Assumes nothing.
use mathlib.Core.Path.{◌≡◌}
use Prim.Native.Nat.{ℕ}
use Rattle.cox.specs.Families.{chain, made}
use Rattle.cox.proofs.Symmetric.{IsSymmetric, chain_symmetric, made_symmetric}
use Rattle.group_names.specs.Names.{entry}
use Rattle.group_names.specs.declared.Name.{Name}
use Rattle.group_names.specs.declared.Name.TheVariants.{A, B, D, E6, E7, E8, F4, H3, H4, I2}

branched_symmetric : (b : ℕ) → IsSymmetric (made 0 b 3 (made 0 1 2 chain))
branched_symmetric b = made_symmetric 0 b 3 _ (made_symmetric 0 1 2 _ chain_symmetric)

pub entry_symmetric : (x : Name) (i j : ℕ) → entry x i j ≡ entry x j i
unfolding entry
entry_symmetric (A n) = chain_symmetric
entry_symmetric (B n) = made_symmetric 0 1 4 _ chain_symmetric
entry_symmetric (D n) = branched_symmetric 2
entry_symmetric E6 = branched_symmetric 3
entry_symmetric E7 = branched_symmetric 3
entry_symmetric E8 = branched_symmetric 3
entry_symmetric F4 = made_symmetric 1 2 4 _ chain_symmetric
entry_symmetric H3 = made_symmetric 0 1 5 _ chain_symmetric
entry_symmetric H4 = made_symmetric 0 1 5 _ chain_symmetric
entry_symmetric (I2 p) = made_symmetric 0 1 p _ chain_symmetric
