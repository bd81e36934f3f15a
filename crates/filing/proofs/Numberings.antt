-- Each renumbering has an inverse: n numbers that differ and are below n leave none out, or they could be squeezed below n − 1, and so on down to nothing. Without
-- one place it is a renumbering of the others. Assumes nothing.
use mathlib.Core.Logic.{◌≢◌, ◌⊎◌, inl, inr}
use mathlib.Core.Path.{◌≡◌, refl, sym, ap, ◌∙◌}
use Prim.Native.Nat.{ℕ, zero, suc, ◌≤◌, ◌<◌, zero-le, suc-le-suc}
use native.Mathlib.Decide.{ℕ_discrete, dec_lt}
use native.Mathlib.Nat.{not-suc-le-zero, le_refl, lt_irrefl}
use native.Mathlib.Omega.{arith}
use Rattle.filing.specs.Numberings.{Injects, Numbering}
use Rattle.filing.proofs.Bytes.{one_more}

pub identity : (n : ℕ) → Numbering n (λ i. i)
identity n = record { within = λ i h. h; apart = λ i j h k e. e }

pub compose : {n : ℕ} {f g : ℕ → ℕ} → Numbering n f → Numbering n g → Numbering n (λ i. f (g i))
compose {n} {f} {g} a b = record {
  within = λ i h. a.within (g i) (b.within i h);
  apart = λ i j h k e. b.apart i j h k (a.apart (g i) (g j) (b.within i h) (b.within j k) e);
}

pub differ : {n m : ℕ} {f : ℕ → ℕ} → Injects n m f → {i j : ℕ} → i < n → j < n → i ≢ j → f i ≢ f j
differ a {i} {j} h k ne e = ne (a.apart i j h k e)

pub numbering_same : {n : ℕ} {f g : ℕ → ℕ} → ((i : ℕ) → i < n → f i ≡ g i) → Numbering n g → Numbering n f
numbering_same e a = record {
  within = λ i h. rw (e i h) (a.within i h);
  apart = λ i j h k x. a.apart i j h k (sym (e i h) ∙ x ∙ e j k);
}

pub injects_all : {k n m : ℕ} {f : ℕ → ℕ} → k ≡ n → Injects k m f → Injects n m f
injects_all e a = rw e at a

-- ---- pigeonholes: n numbers that differ and are below m are at most m

-- x, but v for m
swapped : ℕ → ℕ → ℕ → ℕ
swapped m v x = elim (ℕ_discrete x m) [ yes p ↦ v | no p ↦ x ]

SwappedCases : ℕ → ℕ → ℕ → Type 0
SwappedCases m v x = ((x ≡ m) × (swapped m v x ≡ v)) ⊎ ((x ≢ m) × (swapped m v x ≡ x))

swapped_cases : (m v x : ℕ) → SwappedCases m v x
unfolding swapped SwappedCases
swapped_cases m v x = go (ℕ_discrete x m) refl
  where
    go : (d : Dec (x ≡ m)) → ℕ_discrete x m ≡ d → SwappedCases m v x
    go (yes p) e = inl (p, rw (e, swapped))
    go (no p) e = inr (p, rw (e, swapped))

-- f misses v: then swapping v in for m leaves one hole less
squeeze : {n m : ℕ} {f : ℕ → ℕ} → Injects n (suc m) f → (v : ℕ) → v < suc m → ((i : ℕ) → i < n → f i ≢ v) → Injects n m (λ i. swapped m v (f i))
unfolding SwappedCases
squeeze {n} {m} {f} a v hv misses = record { within = within'; apart = apart' }
  where
    within' : (i : ℕ) → i < n → swapped m v (f i) < m
    within' i h = go (swapped_cases m v (f i))
      where
        go : SwappedCases m v (f i) → swapped m v (f i) < m
        go (inl c) = omega (arith, misses i h)
        go (inr c) = omega (arith, a.within i h)

    apart' : (i j : ℕ) → i < n → j < n → swapped m v (f i) ≡ swapped m v (f j) → i ≡ j
    apart' i j h k e = a.apart i j h k (go (swapped_cases m v (f i)) (swapped_cases m v (f j)))
      where
        go : SwappedCases m v (f i) → SwappedCases m v (f j) → f i ≡ f j
        go (inl c) (inl d) = omega arith
        go (inl c) (inr d) = omega (arith, misses j k)
        go (inr c) (inl d) = omega (arith, misses i h)
        go (inr c) (inr d) = omega arith

pub pigeonhole : (n m : ℕ) (f : ℕ → ℕ) → Injects n m f → n ≤ m
pigeonhole zero m f a = zero-le
pigeonhole (suc n) zero f a = absurd (not-suc-le-zero (a.within n (le_refl (suc n))))
pigeonhole (suc n) (suc m) f a = suc-le-suc (pigeonhole n m (λ i. swapped m (f n) (f i)) (squeeze front (f n) (a.within n (le_refl (suc n))) fresh))
  where
    front : Injects n (suc m) f
    front = record { within = λ i h. a.within i (omega arith); apart = λ i j h k e. a.apart i j (omega arith) (omega arith) e }

    fresh : (i : ℕ) → i < n → f i ≢ f n
    fresh i h e = let z : i ≡ n = a.apart i n (omega arith) (le_refl (suc n)) e in omega arith

-- ---- the inverse

abbrev pub Found : ℕ → (ℕ → ℕ) → ℕ → Type 0
Found n f v = (i : ℕ) × (i < n) × (f i ≡ v)

unfoldable pub find : (n : ℕ) (f : ℕ → ℕ) (v : ℕ) → Found n f v ⊎ ((i : ℕ) → i < n → f i ≢ v)
find zero f v = inr (λ i h. absurd (not-suc-le-zero h))
find (suc n) f v = go (ℕ_discrete (f n) v) (find n f v)
  where
    go : Dec (f n ≡ v) → Found n f v ⊎ ((i : ℕ) → i < n → f i ≢ v) → Found (suc n) f v ⊎ ((i : ℕ) → i < suc n → f i ≢ v)
    go (yes p) r = inl (n, le_refl (suc n), p)
    go (no p) (inl t) = inl (t.0, omega (arith, t.1), t.2)
    go (no p) (inr u) = inr (one_more (λ i. f i ≢ v) u p)

-- every node has a place
pub onto : {n : ℕ} {f : ℕ → ℕ} → Numbering n f → (v : ℕ) → v < n → Found n f v
onto {n = zero} a v h = absurd (not-suc-le-zero h)
onto {n = suc m} {f} a v h = go (find (suc m) f v)
  where
    go : Found (suc m) f v ⊎ ((i : ℕ) → i < suc m → f i ≢ v) → Found (suc m) f v
    go (inl t) = t
    go (inr u) = absurd (lt_irrefl m (pigeonhole (suc m) m (λ i. swapped m v (f i)) (squeeze a v h u)))

-- the place of a node (0 for a number that is no node)
pub inverse : ℕ → (ℕ → ℕ) → ℕ → ℕ
inverse n f v = elim (find n f v) [ inl t ↦ t.0 | inr u ↦ zero ]

module _ {n : ℕ} {f : ℕ → ℕ} (a : Numbering n f) where
  inverse_found : (v : ℕ) → v < n → (inverse n f v < n) × (f (inverse n f v) ≡ v)
  unfolding inverse
  inverse_found v h = go (find n f v) refl
    where
      go : (r : Found n f v ⊎ ((i : ℕ) → i < n → f i ≢ v)) → find n f v ≡ r → (inverse n f v < n) × (f (inverse n f v) ≡ v)
      go (inl t) e = rw (e, inverse) (t.1, t.2)
      go (inr u) e = let t = onto a v h in absurd (u t.0 t.1 t.2)

  pub inverse_right : (v : ℕ) → v < n → f (inverse n f v) ≡ v
  inverse_right v h = (inverse_found v h).1

  pub inverse_left : (i : ℕ) → i < n → inverse n f (f i) ≡ i
  inverse_left i h = let v = a.within i h in a.apart (inverse n f (f i)) i (inverse_found (f i) v).0 h (inverse_right (f i) v)

  pub inverse_numbering : Numbering n (inverse n f)
  inverse_numbering = record {
    within = λ v h. (inverse_found v h).0;
    apart = λ u v h k e. sym (inverse_right u h) ∙ ap f e ∙ inverse_right v k;
  }

-- ---- one taken out

-- the numbers without k
pub past : ℕ → ℕ → ℕ
past k i = elim (dec_lt i k) [ yes l ↦ i | no l ↦ suc i ]

past_cases : (k i : ℕ) → ((i < k) × (past k i ≡ i)) ⊎ ((k ≤ i) × (past k i ≡ suc i))
unfolding past
past_cases k i = go (dec_lt i k) refl
  where
    go : (d : Dec (i < k)) → dec_lt i k ≡ d → ((i < k) × (past k i ≡ i)) ⊎ ((k ≤ i) × (past k i ≡ suc i))
    go (yes l) e = inl (l, rw (e, past))
    go (no l) e = inr (omega arith, rw (e, past))

pub past_below : (k i : ℕ) → i < k → past k i ≡ i
past_below k i h = elim (past_cases k i) [ inl c ↦ c.1 | inr c ↦ omega arith ]

pub past_from : (k i : ℕ) → k ≤ i → past k i ≡ suc i
past_from k i h = elim (past_cases k i) [ inl c ↦ omega arith | inr c ↦ c.1 ]

past_apart : (k i j : ℕ) → past k i ≡ past k j → i ≡ j
past_apart k i j e = go (past_cases k i) (past_cases k j)
  where
    go : ((i < k) × (past k i ≡ i)) ⊎ ((k ≤ i) × (past k i ≡ suc i)) → ((j < k) × (past k j ≡ j)) ⊎ ((k ≤ j) × (past k j ≡ suc j)) → i ≡ j
    go (inl c) (inl d) = omega arith
    go (inl c) (inr d) = omega arith
    go (inr c) (inl d) = omega arith
    go (inr c) (inr d) = omega arith

-- without the place k of the last number, a numbering of the others
pub past_numbering : (n : ℕ) (p : ℕ → ℕ) (k : ℕ) → Numbering (suc n) p → k < suc n → p k ≡ n → Numbering n (λ i. p (past k i))
past_numbering n p k a h e = record {
  within = λ i l.
      let b = a.within (past k i) (low i l) in
      let c : p (past k i) ≢ n = λ y. other i (a.apart (past k i) k (low i l) h (y ∙ sym e)) in
      omega arith;
  apart = λ i j l m y. past_apart k i j (a.apart (past k i) (past k j) (low i l) (low j m) y);
}
  where
    low : (i : ℕ) → i < n → past k i < suc n
    low i l = elim (past_cases k i) [ inl c ↦ omega arith | inr c ↦ omega arith ]

    other : (i : ℕ) → past k i ≢ k
    other i y = elim (past_cases k i) [ inl c ↦ omega arith | inr c ↦ omega arith ]
