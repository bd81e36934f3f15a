-- How many: of the numbers below n, or of their pairs, those of which a test holds.
use Rattle.std.specs.Prelude.{Bool, true, false, ℕ, zero, suc, ◌+◌}

abbrev pub one : Bool → ℕ
one true = 1
one false = 0

-- f 0 + f 1 + .. + f (n − 1)
unfoldable pub sum : (ℕ → ℕ) → ℕ → ℕ
sum f zero = 0
sum f (suc n) = sum f n + f n

-- of 0, .., n − 1
abbrev pub count : (ℕ → Bool) → ℕ → ℕ
count t n = sum (λ i. one (t i)) n

-- of the pairs i < j < n
abbrev pub pair_count : (ℕ → ℕ → Bool) → ℕ → ℕ
pair_count t n = sum (λ j. count (λ i. t i j) j) n
