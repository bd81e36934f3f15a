-- Document 01, "Lengths in parentheses": the value of a literal whose digits are the whole number w and whose power of ten is p.
use Rattle.std.specs.Prelude.{ℕ, suc, ◌^◌, Bool, true, false, ◌&&◌, ℤ, pos, negsuc, neg_ℤ, Float, Option, Some, None}
use Rattle.std.specs.Int.Signed.{le_z}
use Rattle.std.specs.Float.Ieee.{neg}
use Rattle.float.specs.Pick.{pick}
use Rattle.float.specs.Numbers.{whole, ◌*ᶠ◌, ◌/ᶠ◌}

-- "The value is w × 10^p or w ÷ 10^−p as one double operation on exact powers". A w of 15 digits is a double exactly; one above 2 ^ 53 may be rounded.
unfoldable pub value : ℕ → ℤ → Float
unfolding whole
value w (pos k) = whole w *ᶠ whole (10 ^ k)
value w (negsuc k) = whole w /ᶠ whole (10 ^ suc k)

-- "a minus is applied last"
unfoldable pub signed : Bool → Float → Float
signed true v = neg v
signed false v = v

-- "p from −22 to 22"
unfoldable pub in_range : ℤ → Bool
in_range p = le_z (neg_ℤ (pos 22)) p && le_z p (pos 22)

-- "The port takes .. p from −22 to 22, for w = 0 too." How many digits it takes is said where they are counted: `judged` of length/specs/Literals.antt.
unfoldable pub decimal_of : ℕ → ℤ → Bool → Option Float
unfolding value signed in_range
decimal_of w p minus = pick (in_range p) (Some (signed minus (value w p))) None
