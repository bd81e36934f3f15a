-- The place of the first byte that passes a test: as a recursion over the bytes has it, and as the library's `position` finds it. Assumes nothing.
use Prim.Native.Nat.{ℕ, ◌+◌, ◌-◌, ◌≤◌}
use mathlib.Core.Bool.{Bool, true, false, not, cond}
use mathlib.Core.List.{List, [], ◌∷◌}
use mathlib.Core.Path.{◌≡◌, refl, ◌∙◌}
use native.Mathlib.Omega.{arith}
use borrow.Author.Tests.{ltb-false}
use lib.Dec.{ltb}
use lib.ListN.{length, take, drop, length-drop}
use lib.Seq.{take_all}
use Rattle.std.specs.Prelude.{Some, None}
use Rattle.std.specs.List.{position, position_or_len}
use Rattle.std.specs.Option.{unwrap_or}
use Rattle.std.proofs.lemmas.List.Sums.{prefix_len-le-length}
use Rattle.float.specs.Pick.{pick}

-- what is left of a text from `at` on, as a slice's iterator has it
pub slice_rest : (s : List ℕ) (at : ℕ) → take (length s - at) (drop at s) ≡ drop at s
slice_rest s at = take_all _ _ (omega (arith, length-drop at s))

module _ (test : ℕ → Bool) (first : List ℕ → ℕ → ℕ) (ends : (i : ℕ) → first [] i ≡ i) (goes : (b : ℕ) (bs : List ℕ) (i : ℕ) → first (b ∷ bs) i ≡ pick (test b) i (first bs (i + 1))) where
  first_place : (bs : List ℕ) (i : ℕ) → first bs i ≡ i + position_or_len test bs
  first_place [] i = ends i ∙ omega arith
  first_place (b ∷ bs) i = goes b bs i ∙ rw (first_place bs (i + 1)) (at (test b) (position_or_len test bs))
    where
      at : (t : Bool) (n : ℕ) → pick t i (i + 1 + n) ≡ i + cond (not t) (1 + n) 0
      at true n = omega arith
      at false n = omega arith

  -- of a whole text
  pub first_or_length : (s : List ℕ) → unwrap_or (position test s) (length s) ≡ first s 0
  first_or_length s = go (ltb (position_or_len test s) (length s)) refl
    where
      go : (t : Bool) → ltb (position_or_len test s) (length s) ≡ t → unwrap_or (cond t (Some (position_or_len test s)) None) (length s) ≡ first s 0
      go true k = omega (arith, first_place s 0)
      go false k = omega (arith, first_place s 0, prefix_len-le-length (λ b. not (test b)) s, ltb-false (position_or_len test s) (length s) k)

  -- from `at` on
  module _ (s : List ℕ) (at : ℕ) (inside : at ≤ length s) where
    abbrev place : ℕ
    place = position_or_len test (drop at s)

    -- where `position` finds one, and where it finds none
    pub first_some : (n : ℕ) → position test (drop at s) ≡ Some n → (at + n ≡ first (drop at s) at) × (at + n ≤ length s) × (at ≤ at + n)
    first_some n e = go (ltb place (length (drop at s))) e
      where
        go : (t : Bool) → cond t (Some place) None ≡ Some n → (at + n ≡ first (drop at s) at) × (at + n ≤ length s) × (at ≤ at + n)
        go true e = let same : place ≡ n = cc in omega (arith, first_place (drop at s) at, prefix_len-le-length (λ b. not (test b)) (drop at s), length-drop at s)
        go false e = absurd (let z : ◌≡◌ {A = ℕ} 0 1 = cc in omega arith)

    pub first_none : position test (drop at s) ≡ None → (length s ≡ first (drop at s) at) × (length s ≤ length s) × (at ≤ length s)
    first_none e = go (ltb place (length (drop at s))) refl e
      where
        go : (t : Bool) → ltb place (length (drop at s)) ≡ t → cond t (Some place) None ≡ None → (length s ≡ first (drop at s) at) × (length s ≤ length s) × (at ≤ length s)
        go true k e = absurd (let z : ◌≡◌ {A = ℕ} 0 1 = cc in omega arith)
        go false k e = omega (arith, first_place (drop at s) at, prefix_len-le-length (λ b. not (test b)) (drop at s), length-drop at s, ltb-false place (length (drop at s)) k)
