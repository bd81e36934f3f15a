-- The literals of the code; an entry read from its array; a sum of products, one product more. Assumes nothing.
use mathlib.Core.List.{List}
use mathlib.Core.Path.{◌≡◌, refl}
use Prim.Native.Nat.{ℕ, ◌+◌, ◌*◌, ◌<◌}
use native.Mathlib.Numerals.{add-one}
use lib.Ieee.{Float, binary64, of_bits}
use lib.ListN.{get_or}
use Rattle.float.specs.Numbers.{whole, ◌+ᶠ◌, ◌*ᶠ◌}
use Rattle.cox.specs.Squares.{Square, nil, one, two, flat, flat_square, dot}
use Rattle.cox.proofs.Flats.{flat_at, square_at}

-- the literals of the code
pub zero_literal : of_bits binary64 0 ≡ nil
unfolding of_bits whole
zero_literal = refl

pub one_literal : of_bits binary64 0x3ff0_0000_0000_0000 ≡ one
unfolding of_bits whole
one_literal = refl

pub two_literal : of_bits binary64 0x4000_0000_0000_0000 ≡ two
unfolding of_bits whole
two_literal = refl

pub dot_none : (f g : ℕ → Float) → nil ≡ dot f g 0
unfolding dot
dot_none f g = refl

pub dot_more : (f g : ℕ → Float) (k : ℕ) (s x y : Float) → s ≡ dot f g k → x ≡ f k → y ≡ g k → s +ᶠ x *ᶠ y ≡ dot f g (k + 1)
unfolding dot
dot_more f g k s x y e p q = rw (add-one, e, p, q)

-- an entry of a row, and of a square, read from its array
pub row_read : {A : Type 0} (N : ℕ) (f : ℕ → A) (l : List A) (d : A) → l ≡ flat N f → (i : ℕ) → i < N → get_or l i d ≡ f i
row_read N f l d e i h = rw e (flat_at N f d i h)

pub entry_read : (N : ℕ) (m : Square) (l : List Float) (d : Float) → l ≡ flat_square N m → (c r : ℕ) → c < N → r < N → get_or l (N * c + r) d ≡ m c r
entry_read N m l d e c r h k = rw e (square_at N m d c r h k)
