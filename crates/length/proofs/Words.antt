-- The comparison with a word, as that of two lists of one length, byte by byte; and at i of the text and j of the word: where the bytes are alike, where they
-- are not, and past the end of the text or of the word. Assumes nothing.
use Prim.Native.Nat.{ℕ, ◌+◌, ◌≤◌, ◌<◌}
use mathlib.Core.Bool.{Bool, false, and-false}
use mathlib.Core.List.{List, [], ◌∷◌}
use mathlib.Core.Path.{◌≡◌, refl, ◌∙◌}
use native.Mathlib.Omega.{arith}
use lib.Dec.{eqb}
use lib.ListN.{length, get_or, drop, drop_of_length-le}
use borrow.Author.Tests.{eq-eqb, ne_eqb}
use Rattle.std.specs.List.{list_all, zip}
use Rattle.length.specs.Literals.{fold, is_word, is_empty}
use Rattle.scan.proofs.Rest.{drop_at}
use Rattle.length.proofs.Ending.{empty_at_end}

abbrev pub same_letter : ℕ × ℕ → Bool
same_letter p = eqb (fold p.0) p.1

pub word_of_length : (bs ws : List ℕ) → length bs ≡ length ws → list_all same_letter (zip bs ws) ≡ is_word bs ws
unfolding is_word
word_of_length [] [] e = refl
word_of_length [] (w ∷ ws) e = let z : ⊥ = omega arith in absurd z
word_of_length (b ∷ bs) [] e = let z : ⊥ = omega arith in absurd z
word_of_length (b ∷ bs) (w ∷ ws) e = let f : length bs ≡ length ws = omega arith in rw (word_of_length bs ws f)

pub word_of_other_length : (bs ws : List ℕ) → (length bs ≡ length ws → ⊥) → false ≡ is_word bs ws
unfolding is_word
word_of_other_length [] [] n = absurd (n refl)
word_of_other_length [] (w ∷ ws) n = refl
word_of_other_length (b ∷ bs) [] n = refl
word_of_other_length (b ∷ bs) (w ∷ ws) n = rw (← word_of_other_length bs ws (λ e. n (omega arith))) (rw and-false)

-- ---- at i of the text and j of the word

empty_word : (s : List ℕ) → is_empty s ≡ is_word s []
unfolding is_empty is_word
empty_word [] = refl
empty_word (b ∷ bs) = refl

module _ (t w : List ℕ) (i j : ℕ) where
  pub word_alike : i < length t → j < length w → fold (get_or t i 0) ≡ get_or w j 0 → is_word (drop (i + 1) t) (drop (j + 1) w) ≡ is_word (drop i t) (drop j w)
  unfolding is_word
  word_alike h k e = rw (drop_at t i h, drop_at w j k, eq-eqb _ _ e)

  pub word_unlike : i < length t → j < length w → (fold (get_or t i 0) ≡ get_or w j 0 → ⊥) → false ≡ is_word (drop i t) (drop j w)
  unfolding is_word
  word_unlike h k e = rw (drop_at t i h, drop_at w j k, ne_eqb _ _ e)

  pub word_past_text : length t ≤ i → j < length w → false ≡ is_word (drop i t) (drop j w)
  unfolding is_word
  word_past_text h k = rw (drop_of_length-le t h, drop_at w j k)

  pub word_past_word : i ≤ length t → length w ≤ j → eqb i (length t) ≡ is_word (drop i t) (drop j w)
  word_past_word h k = rw (drop_of_length-le w k) (empty_at_end t i h ∙ empty_word (drop i t))
