-- `cd::pair_place` meets its contract: below 9 a product b × (b + 1) is at most 72.
use Prim.Native.Nat.{ℕ, ◌+◌, ◌*◌, ◌≤◌, ◌<◌}
use native.Mathlib.Nat.{mul-le-mul}
use native.Mathlib.Omega.{arith}
use borrow.Author.Tests.{lt-ltb, le-ltb}
use Rattle.cd.specs.Diagrams.{place_of}
use Rattle.cd.proofs.pair_place.Goals as goal

product : (b : ℕ) → b < 9 → b * (b + 1) ≤ 72
product b h = let l : b ≤ 8 = omega arith in let m : b + 1 ≤ 9 = omega arith in mul-le-mul l m

pub overflow_mul-result : goal.overflow_mul-result
overflow_mul-result c = omega (arith, product _ c.requires.1)

pub overflow_add-result-then-a-b : goal.overflow_add-result-then-a-b
overflow_add-result-then-a-b c = omega (arith, product _ c.requires.1)

pub overflow_mul-result-else-a-b : goal.overflow_mul-result-else-a-b
overflow_mul-result-else-a-b c = omega (arith, product _ c.requires.0)

pub overflow_add-result-else-a-b-2 : goal.overflow_add-result-else-a-b-2
overflow_add-result-else-a-b-2 c = omega (arith, product _ c.requires.0)

pub returns-then-a-b : goal.returns-then-a-b
unfolding place_of
returns-then-a-b c = (simp (lt-ltb _ _ c.if-a-b.true), omega (arith, product _ c.requires.1))

pub returns-else-a-b : goal.returns-else-a-b
unfolding place_of
returns-else-a-b c = (simp (le-ltb _ _ c.if-a-b.false), omega (arith, product _ c.requires.0))
