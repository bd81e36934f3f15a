-- Paths along a relation of nodes, and what it is to name each component by its lowest node. No limit of nodes stands here.
use Rattle.std.specs.Prelude.{ℕ, ◌≤◌, ◌<◌, ◌≡◌}

-- a path from one node to another: none at all, or a step and a path from there
pub data Path (E : ℕ → ℕ → Type 0) : ℕ → ℕ → Type 0 where
  here : {i : ℕ} → Path E i i
  on : {i j k : ℕ} → E i j → Path E j k → Path E i k

-- `of` labels the nodes below n: two have the same label exactly when a path leads from one to the other, and a label is the lowest node of its component
pub record Labelled (E : ℕ → ℕ → Type 0) (n : ℕ) (of : ℕ → ℕ) : Type 0 where
  pub same : (a b : ℕ) → a < n → b < n → Path E a b → of a ≡ of b
  pub joins : (a b : ℕ) → a < n → b < n → of a ≡ of b → Path E a b
  pub member : (a : ℕ) → a < n → Path E a (of a)
  pub lowest : (a b : ℕ) → a < n → b < n → Path E a b → of a ≤ b
