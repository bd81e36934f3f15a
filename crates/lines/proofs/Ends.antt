-- A line ends at the first LF. Assumes nothing.
use Prim.Native.Char.{code}
use Rattle.std.proofs.Common.{◌≡◌, ℕ, ◌+◌, ◌==◌, Bool, true, false, cond, not, List, [], ◌∷◌, ap, ◌∙◌, arith}
use Rattle.std.specs.List.{position_or_len}
use Rattle.float.specs.Pick.{pick}
use Rattle.lines.specs.Lines.{line_end}

picked : (t : Bool) (i k r : ℕ) → i + 1 + k ≡ r → i + cond (not t) (1 + k) 0 ≡ pick t i r
picked true i k r e = omega arith
picked false i k r e = omega arith

first_end : (s : List ℕ) (i : ℕ) → i + position_or_len (λ x. x == code "\n") s ≡ line_end s i
unfolding line_end
first_end [] i = omega arith
first_end (b ∷ bs) i = picked (b == code "\n") i (position_or_len (λ x. x == code "\n") bs) (line_end bs (i + 1)) (first_end bs (i + 1))

pub ends_at : (s : List ℕ) (i : ℕ) {k : ℕ} → k ≡ position_or_len (λ x. x == code "\n") s → i + k ≡ line_end s i
ends_at s i h = ap (λ (k : ℕ). i + k) h ∙ first_end s i
