-- Document 01, "Filing record": "A renumbering gives the n nodes the places 0 to n − 1, each place to one node".
use Rattle.std.specs.Prelude.{List, [], ◌∷◌, ◌≡◌, ℕ, ◌<◌, get_or}
use Rattle.filing.specs.Bytes.{blocks}

-- f takes the numbers below n to numbers below m, different ones to different ones
pub record Injects (n m : ℕ) (f : ℕ → ℕ) : Type 0 where
  pub within : (i : ℕ) → i < n → f i < m
  pub apart : (i j : ℕ) → i < n → j < n → f i ≡ f j → i ≡ j

-- a renumbering of n nodes, either way: for each place its node, or for each node its place
abbrev pub Numbering : ℕ → (ℕ → ℕ) → Type 0
Numbering n f = Injects n n f

-- a numbering held as a list
abbrev pub at : List ℕ → ℕ → ℕ
at p i = get_or p i 0

-- the numbering that changes nothing
unfoldable pub plain : ℕ → List ℕ
unfolding blocks
plain n = blocks (λ i. i ∷ []) n
