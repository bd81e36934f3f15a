-- Document 01, "Matrix, mirrors, families": the cosine's stand-in.
use Rattle.std.specs.Prelude.{ℕ, zero, suc, ◌-◌, ◌*◌, Float}
use Rattle.float.specs.Numbers.{whole, ◌-ᶠ◌, ◌*ᶠ◌, ◌/ᶠ◌}

-- "h = 1 − (t ÷ (2k−1)(2k))×h, the product (2k−1)(2k) being formed first as one whole number"
abbrev pub step : Float → ℕ → Float → Float
step t k h = whole 1 -ᶠ t /ᶠ whole ((2 * k - 1) * (2 * k)) *ᶠ h

-- the steps for k, k − 1, .., 1
unfoldable pub steps : Float → ℕ → Float → Float
steps t zero h = h
steps t (suc k) h = steps t k (step t (suc k) h)

-- "Cosine of a: t = a×a, h = 1; for k from 13 down to 1, ..; the answer is h"
unfoldable pub cos_of : Float → Float
unfolding steps
cos_of a = steps (a *ᶠ a) 13 (whole 1)
