-- Lists laid out in arrays of a fixed length. No limit of nodes stands here.
use Rattle.std.specs.Prelude.{ℕ, zero, suc, List, [], ◌∷◌, ◌++◌}

-- the elements of a list in an array of n places, the rest being d
unfoldable pub padded : {A : Type 0} → A → ℕ → List A → List A
padded d zero xs = []
padded d (suc n) [] = d ∷ padded d n []
padded d (suc n) (x ∷ xs) = x ∷ padded d n xs

-- f i j for i = 0, .., k − 1
unfoldable pub row : {A : Type 0} → (ℕ → ℕ → A) → ℕ → ℕ → List A
row f j zero = []
row f j (suc k) = row f j k ++ (f k j ∷ [])

-- f i j for each pair i ≤ j < n, by rising j and then rising i
unfoldable pub triangle : {A : Type 0} → (ℕ → ℕ → A) → ℕ → List A
unfolding row
triangle f zero = []
triangle f (suc n) = triangle f n ++ row f n (suc n)
