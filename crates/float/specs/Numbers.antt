-- Document 01: "each operation rounded once (IEEE 754 binary64)". The kit's IEEE 754 at binary64, under short names.
use Rattle.std.specs.Prelude.{ℕ, ◌^◌, false, pos, Float}
use Rattle.std.specs.Float.Ieee as Ieee
use Rattle.std.specs.Float.{binary64}

-- the double nearest to n / 10 ^ d: what the digits n mean with d of them after the point
unfoldable pub dec : ℕ → ℕ → Float
unfolding Ieee.round
dec n d = Ieee.round binary64 false n (10 ^ d)

-- the whole number n as a double
unfoldable pub whole : ℕ → Float
unfolding Ieee.of_int
whole n = Ieee.of_int binary64 (pos n)

infixl 6 ◌+ᶠ◌ ◌-ᶠ◌
infixl 7 ◌*ᶠ◌ ◌/ᶠ◌
abbrev pub ◌+ᶠ◌ : Float → Float → Float
x +ᶠ y = Ieee.add binary64 x y

abbrev pub ◌-ᶠ◌ : Float → Float → Float
x -ᶠ y = Ieee.sub binary64 x y

abbrev pub ◌*ᶠ◌ : Float → Float → Float
x *ᶠ y = Ieee.mul binary64 x y

abbrev pub ◌/ᶠ◌ : Float → Float → Float
x /ᶠ y = Ieee.div binary64 x y
