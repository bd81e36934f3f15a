-- The places of the pairs in a record. Those of n nodes are numbered by rising j and then rising i: the pair i < j has the number pairs j + i, and each number
-- below pairs n is one pair's, by induction on n. Assumes nothing.
use mathlib.Core.Logic.{⊎_elim}
use mathlib.Core.Path.{◌≡◌, refl, ap}
use Prim.Native.Nat.{ℕ, zero, suc, ◌+◌, ◌-◌, ◌*◌, ◌/◌, ◌<◌}
use native.Mathlib.Decide.{dec_lt}
use native.Mathlib.Nat.{min-eq_left, max-eq_right, le_of_lt, le_of_suc-le-suc, eq-or-lt_of_le, not-suc-le-zero}
use native.Mathlib.Numerals.{sub-one}
use native.Mathlib.Omega.{arith}
use Rattle.filing.specs.Readable.{pair_place}
use Rattle.filing.specs.Records.{nodes_length}

-- how many pairs n nodes have
abbrev pub pairs : ℕ → ℕ
pairs n = n * (n - 1) / 2

pub square_pairs : (n : ℕ) → (n * n - n) / 2 ≡ pairs n
square_pairs zero = refl
square_pairs (suc n) = simp sub-one (omega arith)

next_pairs : (n : ℕ) → pairs (suc n) ≡ pairs n + n
next_pairs zero = refl
next_pairs (suc n) = simp sub-one (omega arith)

-- ---- the number of a pair

pub pair_below : (n i j : ℕ) → i < j → j < n → pairs j + i < pairs n
pair_below zero i j l h = absurd (not-suc-le-zero h)
pair_below (suc n) i j l h =
    ⊎_elim
    (λ (e : j ≡ n). omega (arith, next_pairs n, ap pairs e))
    (λ (m : j < n). omega (arith, next_pairs n, pair_below n i j l m))
    (eq-or-lt_of_le (le_of_suc-le-suc h))

-- the pair of n nodes that has the number k
pub record Numbered (n k : ℕ) : Type 0 where
  pub low : ℕ
  pub high : ℕ
  pub rising : low < high
  pub below : high < n
  pub number : k ≡ pairs high + low

pub pair_numbered : (n k : ℕ) → k < pairs n → Numbered n k
pair_numbered zero k h = absurd (not-suc-le-zero h)
pair_numbered (suc n) k h = elim (dec_lt k (pairs n)) [
  | yes l ↦
      let p = pair_numbered n k l in
      record { low = p.low; high = p.high; rising = p.rising; below = omega (arith, p.below); number = p.number }
  | no l ↦ record { low = k - pairs n; high = n; rising = omega (arith, next_pairs n); below = omega arith; number = omega arith }
]

-- ---- its place

pub place_rising : (N i j : ℕ) → i < j → pair_place N i j ≡ 1 + nodes_length N + 8 * (pairs j + i)
unfolding pair_place
place_rising N i j h = rw (min-eq_left (le_of_lt h), max-eq_right (le_of_lt h))
