-- The numbers of pairs by their ranks, in their order.
use Rattle.std.specs.Prelude.{List, ◌≡◌, ℕ, ◌+◌, ◌*◌, ◌<◌}
use Rattle.filing.specs.Numberings.{at}

-- a table of N × N places
abbrev pub table : ℕ → List ℕ → ℕ → ℕ → ℕ
table N e u v = at e (N * u + v)

-- for n nodes, what r gives to pairs stands as what e gives
pub record Ranked (n : ℕ) (e r : ℕ → ℕ → ℕ) : Type 0 where
  pub less : (u v a b : ℕ) → u < n → v < n → a < n → b < n → r u v < r a b → e u v < e a b
  pub same : (u v a b : ℕ) → u < n → v < n → a < n → b < n → r u v ≡ r a b → e u v ≡ e a b
