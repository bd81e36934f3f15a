-- Skipping spaces at a position of a text: at a space, at another byte, at the end; and how far it goes. Assumes nothing.
use Prim.Native.Nat.{ℕ, ◌+◌, ◌≤◌, ◌<◌}
use mathlib.Core.Bool.{Bool, true, false}
use mathlib.Core.List.{List, [], ◌∷◌}
use mathlib.Core.Path.{◌≡◌, sym, ◌∙◌}
use native.Mathlib.Omega.{arith}
use lib.ListN.{length, get_or, drop, drop_of_length-le}
use Rattle.float.specs.Pick.{pick}
use Rattle.scan.specs.Bytes.{is_space}
use Rattle.scan.specs.Spaces.{skip}
use Rattle.scan.proofs.Rest.{drop_at}

pub skip_at_space : (s : List ℕ) (i : ℕ) → i < length s → is_space (get_or s i 0) ≡ true → skip (drop (i + 1) s) (i + 1) ≡ skip (drop i s) i
unfolding skip
skip_at_space s i h e = rw (drop_at s i h, e)

pub skip_at_other : (s : List ℕ) (i : ℕ) → i < length s → is_space (get_or s i 0) ≡ false → i ≡ skip (drop i s) i
unfolding skip
skip_at_other s i h e = rw (drop_at s i h, e)

pub skip_at_end : (s : List ℕ) (i : ℕ) → length s ≤ i → i ≡ skip (drop i s) i
unfolding skip
skip_at_end s i h = rw (drop_of_length-le s h)

pub skip_at_length : (s : List ℕ) (i : ℕ) → i ≡ length s → length s ≡ skip (drop i s) i
skip_at_length s i e = sym e ∙ skip_at_end s i (omega arith)

-- from i on, and not past the end
pub skip_bounds : (bs : List ℕ) (i : ℕ) → (i ≤ skip bs i) × (skip bs i ≤ i + length bs)
unfolding skip
skip_bounds [] i = omega arith
skip_bounds (b ∷ bs) i = first (is_space b) (skip bs (i + 1)) (skip_bounds bs (i + 1))
  where
    first : (t : Bool) (k : ℕ) → (i + 1 ≤ k) × (k ≤ i + 1 + length bs) → (i ≤ pick t k i) × (pick t k i ≤ i + length (b ∷ bs))
    first true k h = omega arith
    first false k h = omega arith

pub ruleset skip_laws = (skip_at_space, skip_at_other, skip_at_length)
