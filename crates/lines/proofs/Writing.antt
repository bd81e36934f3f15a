-- What is added in two steps is added in one; figures, one at a time. Assumes nothing.
use Prim.Native.Char.{code}
use Rattle.std.proofs.Common.{◌≡◌, ℕ, ◌+◌, ◌<◌, List, [], ◌∷◌, ◌++◌, length, get_or, take, refl, ap, ◌∙◌, append_assoc, append-nil, add-one}
use Rattle.std.proofs.Math.Seq.{take-suc}
use Rattle.lexicon.specs.Answers.{numeral, spaced}

pub adds_then : {b c : List ℕ} (a x y : List ℕ) → b ≡ a ++ x → c ≡ b ++ y → c ≡ a ++ (x ++ y)
adds_then a x y p q = q ∙ ap (λ (l : List ℕ). l ++ y) p ∙ append_assoc a x y

spaced_append : (xs ys : List ℕ) → spaced (xs ++ ys) ≡ spaced xs ++ spaced ys
unfolding spaced
spaced_append [] ys = refl
spaced_append (x ∷ xs) ys = rw (spaced_append xs ys, append_assoc)

pub adds_figure : {b c : List ℕ} (a xs : List ℕ) (k : ℕ)
    → k < length xs → b ≡ a ++ spaced (take k xs) → c ≡ b ++ (code " " ∷ numeral (get_or xs k 0)) → c ≡ a ++ spaced (take (k + 1) xs)
unfolding spaced
adds_figure a xs k h p q =
    let t : take (k + 1) xs ≡ take k xs ++ (get_or xs k 0 ∷ []) = rw add-one (take-suc xs k 0 h) in
    rw (t, spaced_append (take k xs) (get_or xs k 0 ∷ []), append-nil) (adds_then a (spaced (take k xs)) (code " " ∷ numeral (get_or xs k 0)) p q)
