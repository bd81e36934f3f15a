-- Document 02, K7, has of cd.rs: "a node's value is twice the distance to its mirror". Where nothing is rounded the second generator lies there: its product with column i is half
-- the value of node i. The steps are those of generator/specs/TrueDistances.antt, which the calls take in doubles; here they are taken in any field, such as the real
-- numbers, of which the laws below are all that is used. A column has zeros past its diagonal. Assumes nothing.
use mathlib.Core.Logic.{◌≢◌}
use mathlib.Core.Path.{◌≡◌, refl, ap, ap₂, ◌∙◌}
use Prim.Native.Nat.{ℕ, zero, suc, ◌<◌, ◌≤◌}
use native.Mathlib.Decide.{dec_lt}
use native.Mathlib.Nat.{not-suc-le-zero}
use native.Mathlib.Omega.{arith}
use borrow.Author.Tests.{eq-eqb, ne_eqb}
use Rattle.generator.specs.TrueDistances.{rest, placed, place}

pub record Field {K : Type 0} (add sub mul div : K → K → K) (𝟘 : K) : Type 0 where
  pub add_comm : (x y : K) → add x y ≡ add y x
  pub add_assoc : (x y z : K) → add (add x y) z ≡ add x (add y z)
  pub zero_add : (x : K) → add 𝟘 x ≡ x
  pub sub_add : (x y : K) → add (sub x y) y ≡ x
  pub mul_zero : (x : K) → mul x 𝟘 ≡ 𝟘
  pub div_mul : (x y : K) → y ≢ 𝟘 → mul (div x y) y ≡ x

module _ {K : Type 0} (◌+◌ ◌-◌ ◌*◌ ◌/◌ : K → K → K) (𝟘 two : K) (laws : Field ◌+◌ ◌-◌ ◌*◌ ◌/◌ 𝟘) where
  infixl 6 ◌+◌ ◌-◌
  infixl 7 ◌*◌ ◌/◌
  -- b 0 × c 0 + .. + b (k − 1) × c (k − 1)
  unfoldable pub product : (ℕ → K) → (ℕ → K) → ℕ → K
  product b c zero = 𝟘
  product b c (suc k) = product b c k + b k * c k

  product_same : (b d c : ℕ → K) (k : ℕ) → ((r : ℕ) → r < k → b r ≡ d r) → product b c k ≡ product d c k
  unfolding product
  product_same b d c zero same = refl
  product_same b d c (suc k) same = rw (product_same b d c k (λ r h. same r (omega arith)), same k (omega arith))

  -- a number moved from one summand to the other
  exchange : (x y p : K) → (x + p) + (y - p) ≡ x + y
  exchange x y p = laws.add_assoc x p (y - p) ∙ ap (◌+◌ x) (laws.add_comm p (y - p) ∙ laws.sub_add y p)

  module _ (m : ℕ → ℕ → K) where
    -- what is taken off and what is left make half the value
    halved : (b : ℕ → K) (i k : ℕ) → product b (m i) k + rest ◌-◌ ◌*◌ ◌/◌ two m b i k ≡ b i / two
    unfolding product rest
    halved b i zero = laws.zero_add (b i / two)
    halved b i (suc k) = exchange (product b (m i) k) (rest ◌-◌ ◌*◌ ◌/◌ two m b i k) (b k * m i k) ∙ halved b i k

    -- rows of zeros add nothing
    cut : (b : ℕ → K) (i n : ℕ) → i < n → ((r : ℕ) → i < r → m i r ≡ 𝟘) → product b (m i) n ≡ product b (m i) (suc i)
    unfolding product
    cut b i zero h none = absurd (not-suc-le-zero h)
    cut b i (suc n) h none =
        elim (dec_lt i n) [
          | yes l ↦ rw (none n l, laws.mul_zero (b n), laws.add_comm (product b (m i) n) 𝟘, laws.zero_add (product b (m i) n)) (cut b i n l none)
          | no l ↦ ap (λ k. product b (m i) (suc k)) (omega arith)
        ]

    module _ (v : ℕ → K) where
      after : ℕ → ℕ → K
      after j = place ◌-◌ ◌*◌ ◌/◌ two m j v

      placed_here : (i : ℕ) → after (suc i) i ≡ rest ◌-◌ ◌*◌ ◌/◌ two m (after i) i i / m i i
      unfolding after place placed
      placed_here i = rw (eq-eqb i i refl)

      placed_other : (i r : ℕ) → r ≢ i → after (suc i) r ≡ after i r
      unfolding after place placed
      placed_other i r n = rw (ne_eqb r i n)

      -- a coordinate stays as it is placed
      stays : (j n r : ℕ) → r < j → j ≤ n → after n r ≡ after j r
      stays j zero r l h = let none : r < 0 = omega arith in absurd (not-suc-le-zero none)
      stays j (suc n) r l h =
          elim (dec_lt n j) [
            | yes e ↦ ap (λ k. after k r) (omega arith)
            | no e ↦ placed_other n r (omega arith) ∙ stays j n r l (omega arith)
          ]

      -- until then its value stands there
      waits : (j r : ℕ) → j ≤ r → after j r ≡ v r
      unfolding after place
      waits zero r h = refl
      waits (suc j) r h = placed_other j r (omega arith) ∙ waits j r (omega arith)

      module _ (n i : ℕ) (below : i < n) (diagonal : m i i ≢ 𝟘) (none : (r : ℕ) → i < r → m i r ≡ 𝟘) where
        -- THE PRODUCT WITH COLUMN I IS HALF THE VALUE OF NODE I
        pub half_value : product (place ◌-◌ ◌*◌ ◌/◌ two m n v) (m i) n ≡ v i / two
        unfolding after product
        half_value =
            let left = rest ◌-◌ ◌*◌ ◌/◌ two m (after i) i i in
            let here : after n i * m i i ≡ left = ap (λ x. x * m i i) (stays (suc i) n i (omega arith) (omega arith) ∙ placed_here i) ∙ laws.div_mul left (m i i) diagonal in
            cut (after n) i n below none
            ∙ ap₂ ◌+◌ (product_same (after n) (after i) (m i) i (λ r h. stays i n r h (omega arith))) here
            ∙ halved (after i) i i
            ∙ ap (λ x. x / two) (waits i i (omega arith))

        -- A NODE'S VALUE IS TWICE THAT PRODUCT
        pub twice : two ≢ 𝟘 → product (place ◌-◌ ◌*◌ ◌/◌ two m n v) (m i) n * two ≡ v i
        twice h = ap (λ x. x * two) half_value ∙ laws.div_mul (v i) two h
