-- Document 01, "Matrix, mirrors, families": "Root of a finite v ≥ 0: the nearest double, proved by comparing v with squares of the halfway points as scaled whole numbers."
-- A finite double is a whole number of units of 2 ^ -1074, the least double above zero. The pattern of a double that is not negative counts the doubles
-- from zero up: the double after the one with pattern b has pattern b + 1.
use Rattle.std.specs.Prelude.{ℕ, zero, suc, ◌+◌, ◌-◌, ◌*◌, ◌/◌, ◌%◌, ◌^◌, ◌<◌, Bool, true, false, cond, ltb, leb, Float, ◌≡◌}
use Rattle.std.specs.Float.{nan, inf, fin, binary64}
use Rattle.std.specs.Float.Ieee.{up, down, of_bits}
use Rattle.std.specs.Float.Ieee.Exact.{HasValue}

-- how many units the double with pattern b has: an exponent's field of 0 has no leading digit
unfoldable pub units : ℕ → ℕ
units b = cond (ltb b (2 ^ 52)) b ((2 ^ 52 + b % 2 ^ 52) * 2 ^ (b / 2 ^ 52 - 1))

-- twice the halfway point between the double b and the one before it, in units
unfoldable pub halfway : ℕ → ℕ
unfolding units
halfway b = units (b - 1) + units b

-- four times the square of a halfway point is the square of `halfway`, and u units are u × 2 ^ 1074 squares of a unit: so scaled, both are whole numbers
abbrev pub scaled : ℕ → ℕ
scaled u = u * (4 * 2 ^ 1074)

-- the halfway point below the double b is at most the root of u units
unfoldable pub reaches : ℕ → ℕ → Bool
unfolding halfway
reaches u b = leb (halfway b * halfway b) (scaled u)

-- the last pattern from b up, and below b + 2 ^ k, whose halfway point is at most the root: binary digit by binary digit
unfoldable pub last : ℕ → ℕ → ℕ → ℕ
unfolding reaches
last u zero b = b
last u (suc k) b = last u k (cond (reaches u (b + 2 ^ k)) (b + 2 ^ k) b)

-- the pattern of the root of u units
unfoldable pub root_bits : ℕ → ℕ
unfolding last
root_bits u = last u 63 0

-- IEEE 754's square root: a zero is its own root, sign and all, and below zero there is none
unfoldable pub root_of : Float → Float
unfolding root_bits
root_of nan = nan
root_of (inf false) = inf false
root_of (inf true) = nan
root_of (fin s zero e) = fin s zero e
root_of (fin true (suc m) e) = nan
root_of (fin false (suc m) e) = of_bits binary64 (root_bits (suc m * up e * 2 ^ 1074 / down e))

-- ---- what makes this the nearest double

-- the root of u units lies between the halfway points on the two sides of the double t
pub record Between (u t : ℕ) : Type 0 where
  pub low : halfway t * halfway t < scaled u
  pub high : scaled u < halfway (t + 1) * halfway (t + 1)

-- r is the double nearest to the root of v, no other is, and no halfway point is the root
pub record NearestRoot (v r : Float) : Type 0 where
  pub u : ℕ
  pub of_v : HasValue v false u (2 ^ 1074)
  pub t : ℕ
  pub of_r : r ≡ of_bits binary64 t
  pub r_finite : HasValue r false (units t) (2 ^ 1074)
  pub nearest : Between u t
  pub only : (s : ℕ) → s < 2 ^ 63 → Between u s → s ≡ t
  pub no_tie : (b : ℕ) → halfway b * halfway b ≡ scaled u → ⊥
