-- Document 02, K7, of the second generator: "Its coordinates come by rising i: half the node's value, less each earlier coordinate k < i times row k of column i, taken off by
-- rising k, the rest divided by row i of column i." The steps are said of any numbers, so that geometry/proofs/HalfValues.antt tells what they come to where nothing is
-- rounded; the calls take them in doubles.
use Rattle.std.specs.Prelude.{Bool, true, false, eqb, Float}
use Prim.Native.Nat.{ℕ, zero, suc}
use Rattle.float.specs.Numbers.{◌-ᶠ◌, ◌*ᶠ◌, ◌/ᶠ◌}
use Rattle.float.specs.Pick.{pick}
use Rattle.cox.specs.Squares.{Square, two}
use Rattle.generator.specs.Generator.{solve}

-- m has the columns; b holds the coordinates before i, and from i on the node values
module _ {K : Type 0} (◌-◌ ◌*◌ ◌/◌ : K → K → K) (two : K) where
  infixl 6 ◌-◌
  infixl 7 ◌*◌ ◌/◌
  -- "half the node's value, less each earlier coordinate .., taken off by rising k": less the first k
  unfoldable pub rest : (ℕ → ℕ → K) → (ℕ → K) → ℕ → ℕ → K
  rest m b i zero = b i / two
  rest m b i (suc k) = rest m b i k - b k * m i k

  -- "the rest divided by row i of column i"
  unfoldable pub placed : (ℕ → ℕ → K) → ℕ → (ℕ → K) → ℕ → K
  unfolding rest
  placed m i b r = pick (eqb r i) (rest m b i i / m i i) (b r)

  -- "by rising i": the first i, b being the node values
  unfoldable pub place : (ℕ → ℕ → K) → ℕ → (ℕ → K) → ℕ → K
  unfolding placed
  place m zero b = b
  place m (suc i) b = placed m i (place m i b)

-- in doubles
abbrev pub restᶠ : Square → (ℕ → Float) → ℕ → ℕ → Float
restᶠ = rest ◌-ᶠ◌ ◌*ᶠ◌ ◌/ᶠ◌ two

abbrev pub placeᶠ : Square → ℕ → (ℕ → Float) → ℕ → Float
placeᶠ = place ◌-ᶠ◌ ◌*ᶠ◌ ◌/ᶠ◌ two

-- the coordinates of n nodes over the Rust's mirrors, or over walls, b being the node values
unfoldable pub coordinates : Bool → Square → ℕ → (ℕ → Float) → ℕ → Float
unfolding solve place
coordinates true m n b = placeᶠ m n b
coordinates false m n b = solve m n b
