-- Factorials, which the tickets count by: K3 numberings, K4 the elements of groups.
use Rattle.std.specs.Prelude.{ℕ, zero, suc, ◌*◌}

unfoldable pub factorial : ℕ → ℕ
factorial zero = 1
factorial (suc n) = suc n * factorial n
