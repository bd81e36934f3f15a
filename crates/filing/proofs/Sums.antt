-- Sums, and counts, which are sums of ones. A summand may be taken out at any place and put last, so no numbering changes a sum. The pairs that a test holds of,
-- each in both orders, are a sum of sums, so no numbering changes their number. Assumes nothing.
use mathlib.Core.Bool.{Bool, true, false, ◌||◌}
use mathlib.Core.Logic.{◌≢◌}
use mathlib.Core.Path.{◌≡◌, refl, sym, ap, ap₂, ◌∙◌}
use Prim.Native.Nat.{ℕ, zero, suc, ◌+◌, ◌-◌, ◌*◌, ◌<◌}
use native.Mathlib.Decide.{ℕ_discrete}
use native.Mathlib.Nat.{zero-add, suc-add, le_refl, not-suc-le-zero}
use native.Mathlib.Numerals.{add-one}
use native.Mathlib.Omega.{arith}
use Rattle.filing.specs.Counts.{one, sum, count, pair_count}
use Rattle.filing.specs.Numberings.{Numbering}
use Rattle.filing.proofs.Numberings.{onto, past, past_below, past_from, past_numbering}

-- ---- sums

pub sum_local : (f g : ℕ → ℕ) (n : ℕ) → ((i : ℕ) → i < n → f i ≡ g i) → sum f n ≡ sum g n
unfolding sum
sum_local f g zero e = refl
sum_local f g (suc n) e = ap₂ ◌+◌ (sum_local f g n (λ i h. e i (omega arith))) (e n (le_refl (suc n)))

sum_add : (f g : ℕ → ℕ) (n : ℕ) → sum (λ i. f i + g i) n ≡ sum f n + sum g n
unfolding sum
sum_add f g zero = refl
sum_add f g (suc n) = omega (arith, sum_add f g n)

sum_none : (f : ℕ → ℕ) (n : ℕ) → ((i : ℕ) → i < n → f i ≡ 0) → sum f n ≡ 0
unfolding sum
sum_none f zero e = refl
sum_none f (suc n) e = omega (arith, sum_none f n (λ i h. e i (omega arith)), e n (le_refl (suc n)))

-- all but one are 0
sum_alone : (f : ℕ → ℕ) (n a : ℕ) → a < n → ((i : ℕ) → i < n → i ≢ a → f i ≡ 0) → sum f n ≡ f a
unfolding sum
sum_alone f zero a h e = absurd (not-suc-le-zero h)
sum_alone f (suc n) a h e =
    elim (ℕ_discrete n a) [
      | yes q ↦ omega (arith, sum_none f n (λ i l. e i (omega arith) (λ z. omega arith)), ap f q)
      | no q ↦ omega (arith, sum_alone f n a (omega arith) (λ i l. e i (omega arith)), e n (le_refl (suc n)) q)
    ]

-- ---- counts

pub count_all : (t : ℕ → Bool) (n : ℕ) → ((i : ℕ) → i < n → t i ≡ true) → count t n ≡ n
unfolding sum
count_all t zero h = refl
count_all t (suc n) h = ap₂ (λ k b. k + one b) (count_all t n (λ i k. h i (omega arith))) (h n (le_refl (suc n))) ∙ add-one n

-- ---- one taken out

-- f k taken out, with m behind it
pub sum_taken : (f : ℕ → ℕ) (k m : ℕ) → sum f (suc (m + k)) ≡ sum (λ i. f (past k i)) (m + k) + f k
unfolding sum
sum_taken f k zero = rw (zero-add k, sum_local f (λ i. f (past k i)) k (λ i h. ap f (sym (past_below k i h))))
sum_taken f k (suc m) =
    let next = ap f (past_from k (m + k) (omega arith)) in
    let before = sum_taken f k m in
    rw (suc-add m k) (omega arith)

pub sum_renumbered : (f : ℕ → ℕ) (p : ℕ → ℕ) (n : ℕ) → Numbering n p → sum (λ i. f (p i)) n ≡ sum f n
unfolding sum
sum_renumbered f p zero a = refl
sum_renumbered f p (suc n) a =
    let (k, h, e) = onto a n (le_refl (suc n)) in
    let whole : n - k + k ≡ n = omega arith in
    let taken = rw whole at (sum_taken (λ i. f (p i)) k (n - k)) in
    taken ∙ ap₂ (λ (s v : ℕ). s + f v) (sum_renumbered f (λ i. p (past k i)) n (past_numbering n p k a h e)) e

-- ---- pairs

pub pairs_local : (t u : ℕ → ℕ → Bool) (n : ℕ) → ((i j : ℕ) → i < j → j < n → t i j ≡ u i j) → pair_count t n ≡ pair_count u n
pairs_local t u n e = sum_local _ _ n (λ j h. sum_local _ _ j (λ i l. ap one (e i j l h)))

one_or : (a b : Bool) → (a ≡ true → b ≡ false) → one (a || b) ≡ one a + one b
one_or true b h = ap (λ c. 1 + one c) (sym (h refl))
one_or false b h = sym (zero-add (one b))

-- no pair has both tests
pub pairs_or : (t u : ℕ → ℕ → Bool) (n : ℕ) → ((i j : ℕ) → t i j ≡ true → u i j ≡ false) → pair_count (λ i j. t i j || u i j) n ≡ pair_count t n + pair_count u n
pairs_or t u n e =
    sum_local _ _ n (λ j h. sum_local _ _ j (λ i l. one_or (t i j) (u i j) (e i j)) ∙ sum_add (λ i. one (t i j)) (λ i. one (u i j)) j)
    ∙ sum_add (λ j. count (λ i. t i j) j) (λ j. count (λ i. u i j) j) n

pub pairs_none : (t : ℕ → ℕ → Bool) (n : ℕ) → ((i j : ℕ) → i < j → j < n → t i j ≡ false) → pair_count t n ≡ 0
pairs_none t n e = sum_none _ n (λ j h. sum_none _ j (λ i l. ap one (e i j l h)))

-- one pair has the test
pub pairs_alone : (t : ℕ → ℕ → Bool) (n a b : ℕ) → a < b → b < n → t a b ≡ true → ((i j : ℕ) → i < j → ((i ≡ a) × (j ≡ b) → ⊥) → t i j ≡ false) → pair_count t n ≡ 1
pairs_alone t n a b l h is e =
    sum_alone (λ j. count (λ i. t i j) j) n b h (λ j m ne. sum_none _ j (λ i k. ap one (e i j k (λ q. ne q.1))))
    ∙ sum_alone (λ i. one (t i b)) b a l (λ i k ne. ap one (e i b k (λ q. ne q.0)))
    ∙ ap one is

-- each pair in both orders, and each number with itself
abbrev square : (ℕ → ℕ → Bool) → ℕ → ℕ
square t n = sum (λ j. count (λ i. t i j) n) n

square_renumbered : (t : ℕ → ℕ → Bool) (p : ℕ → ℕ) (n : ℕ) → Numbering n p → square (λ i j. t (p i) (p j)) n ≡ square t n
square_renumbered t p n a =
    sum_local _ _ n (λ j h. sum_renumbered (λ i. one (t i (p j))) p n a) ∙ sum_renumbered (λ j. count (λ i. t i j) n) p n a

square_pairs : (t : ℕ → ℕ → Bool) → ((i j : ℕ) → t i j ≡ t j i) → (n : ℕ) → square t n ≡ 2 * pair_count t n + count (λ i. t i i) n
unfolding sum
square_pairs t turn zero = refl
square_pairs t turn (suc n) =
    let columns = sum_add (λ j. count (λ i. t i j) n) (λ j. one (t n j)) n in
    let row : sum (λ j. one (t n j)) n ≡ count (λ i. t i n) n = sum_local _ _ n (λ j h. ap one (turn n j)) in
    omega (arith, square_pairs t turn n)

-- NO NUMBERING CHANGES HOW MANY PAIRS A TEST HOLDS OF
pub pairs_renumbered : (t : ℕ → ℕ → Bool) → ((i j : ℕ) → t i j ≡ t j i) → (p : ℕ → ℕ) (n : ℕ) → Numbering n p → pair_count (λ i j. t (p i) (p j)) n ≡ pair_count t n
pairs_renumbered t turn p n a =
    omega (
      arith,
      square_pairs (λ i j. t (p i) (p j)) (λ i j. turn (p i) (p j)) n,
      square_pairs t turn n,
      square_renumbered t p n a,
      sum_renumbered (λ i. one (t i i)) p n a,
    )
