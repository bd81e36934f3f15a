-- The test of a range of bytes, from the comparisons of a `match`, and back. Assumes nothing.
use Prim.Native.Nat.{ℕ, ◌≤◌, ◌<◌}
use mathlib.Core.Bool.{true, false, and-false, and-eq-true_iff}
use mathlib.Core.Path.{◌≡◌}
use lib.Dec.{leb}
use borrow.Author.Tests.{le-leb, lt-leb, leb-true}
use Rattle.scan.specs.Bytes.{within}

pub within_inside : (lo hi b : ℕ) → lo ≤ b → b ≤ hi → within lo hi b ≡ true
unfolding within
within_inside lo hi b p q = simp (le-leb lo b p, le-leb b hi q)

pub within_below : (lo hi b : ℕ) → b < lo → within lo hi b ≡ false
unfolding within
within_below lo hi b p = simp (lt-leb lo b p)

pub within_above : (lo hi b : ℕ) → hi < b → within lo hi b ≡ false
unfolding within
within_above lo hi b p = simp (lt-leb b hi p, and-false)

pub low_of_within : (lo hi b : ℕ) → within lo hi b ≡ true → lo ≤ b
unfolding within
low_of_within lo hi b e = leb-true lo b ((and-eq-true_iff (leb lo b) (leb b hi)).0 e).0
