-- The labelling goes on from pair to pair. Where an edge joins the pair, a path leads from the greater label to the lesser, so the lesser in its place is still
-- a node of each component that had either. Once every row is met a step keeps the label, so a path does. So there is a labelling, whatever code makes one. No limit
-- of nodes stands here. Assumes nothing.
use Prim.Native.Nat.{ℕ, zero, suc, ◌+◌, ◌≤◌, ◌<◌}
use mathlib.Core.List.{List, [], ◌∷◌}
use mathlib.Core.Path.{◌≡◌, refl, sym, ap, ◌∙◌, subst}
use native.Mathlib.Decide.{dec_lt, ℕ_discrete}
use native.Mathlib.Nat.{le_refl, not-suc-le-zero, le_of_suc-le-suc}
use native.Mathlib.Numerals.{add-one}
use native.Mathlib.Omega.{arith}
use borrow.Author.Count.{below_more}
use borrow.Author.Tests.{eq-eqb, ne_eqb}
use Rattle.cd.specs.Paths.{Path, here, on, Labelled}
use Rattle.minimal.specs.Labels.{label_in, instead, Partway}
use Rattle.minimal.proofs.Paths.{path_join, path_back}

-- ---- one label in the place of another

module _ (from to c : ℕ) where
  pub instead_yes : c ≡ from → instead from to c ≡ to
  unfolding instead
  instead_yes e = rw (eq-eqb c from e)

  pub instead_no : (c ≡ from → ⊥) → instead from to c ≡ c
  unfolding instead
  instead_no e = rw (ne_eqb c from e)

  -- what holds of c, and of `to` where c is `from`, holds of what stands in c's place
  instead_holds : (P : ℕ → Type 0) → (c ≡ from → P to) → P c → P (instead from to c)
  instead_holds P y n =
      elim (ℕ_discrete c from) [
        | yes e ↦ rw (instead_yes e) (y e)
        | no e ↦ rw (instead_no e) n
      ]

-- ---- a pair is met

module _ (E : ℕ → ℕ → Type 0) (n j i : ℕ) (f : ℕ → ℕ) (at : Partway E n j i f) (ij : i < j) (jn : j < n) where
  pub met_no_edge : (E i j → ⊥) → Partway E n j (i + 1) f
  met_no_edge none = record { member = at.member; low = at.low; rows = at.rows; row = below_more _ i at.row (λ e. absurd (none e)) }

  met_relabelled : (from to : ℕ) (g : ℕ → ℕ) → ((k : ℕ) → k < n → g k ≡ instead from to (f k)) → to ≤ from → Path E from to → instead from to (f i) ≡ instead from to (f j) → Partway E n j (i + 1) g
  met_relabelled from to g is less path both =
      let kept : (p q : ℕ) → p < n → q < n → f p ≡ f q → g p ≡ g q = λ p q hp hq e. is p hp ∙ ap (instead from to) e ∙ sym (is q hq) in
      record {
        member = λ a h. rw (is a h) (instead_holds from to (f a) (Path E a) (λ e. path_join (rw e at (at.member a h)) path) (at.member a h));
        low = λ a h. rw (is a h) (instead_holds from to (f a) (λ x. x ≤ a) (λ e. omega (arith, at.low a h)) (at.low a h));
        rows = λ p q h l e. kept p q (omega arith) (omega arith) (at.rows p q h l e);
        row = below_more _ i (λ p h e. kept p j (omega arith) jn (at.row p h e)) (λ e. is i (omega arith) ∙ both ∙ sym (is j jn));
      }

  module _ (turn : (i j : ℕ) → E i j → E j i) (edge : E i j) (g : ℕ → ℕ) where
    pub met_lower : f i < f j → ((k : ℕ) → k < n → g k ≡ instead (f j) (f i) (f k)) → Partway E n j (i + 1) g
    met_lower less is =
        let path : Path E (f j) (f i) = path_join (path_back turn (at.member j jn)) (on (turn i j edge) (at.member i (omega arith))) in
        met_relabelled (f j) (f i) g is (omega arith) path (instead_no (f j) (f i) (f i) (λ e. omega arith) ∙ sym (instead_yes (f j) (f i) (f j) refl))

    pub met_upper : f j ≤ f i → ((k : ℕ) → k < n → g k ≡ instead (f i) (f j) (f k)) → Partway E n j (i + 1) g
    met_upper less is =
        let path : Path E (f i) (f j) = path_join (path_back turn (at.member i (omega arith))) (on edge (at.member j jn)) in
        let kept : instead (f i) (f j) (f j) ≡ f j = instead_holds (f i) (f j) (f j) (λ x. x ≡ f j) (λ e. refl) refl in
        met_relabelled (f i) (f j) g is less path (instead_yes (f i) (f j) (f i) refl ∙ sym kept)

-- ---- the first pair, the end of a row, and the end

-- n numbers, from m on
unfoldable pub up_from : ℕ → ℕ → List ℕ
up_from m zero = []
up_from m (suc n) = m ∷ up_from (suc m) n

pub label_up_from : (m n k : ℕ) → k < n → label_in (up_from m n) k ≡ m + k
unfolding up_from
label_up_from m zero k h = absurd (not-suc-le-zero h)
label_up_from m (suc n) zero h = omega arith
label_up_from m (suc n) (suc k) h = omega (arith, label_up_from (suc m) n k (le_of_suc-le-suc h))

module _ (E : ℕ → ℕ → Type 0) (n : ℕ) (f : ℕ → ℕ) where
  -- before the first pair each node has a label of its own
  pub none_met : ((k : ℕ) → k < n → f k ≡ k) → Partway E n 0 0 f
  none_met own =
      record {
        member = λ a h. rw (own a h) here;
        low = λ a h. omega (arith, own a h);
        rows = λ p q h l e. absurd (not-suc-le-zero l);
        row = λ p h e. absurd (not-suc-le-zero h);
      }

  pub row_met : (j : ℕ) → Partway E n j j f → Partway E n (j + 1) 0 f
  row_met j at =
      record {
        member = at.member;
        low = at.low;
        rows = λ p q h l. below_more (λ q. p < q → E p q → f p ≡ f q) j (λ q l h. at.rows p q h l) (at.row p) q l h;
        row = λ p h e. absurd (not-suc-le-zero h);
      }

  module _ (turn : (i j : ℕ) → E i j → E j i) (below : (i j : ℕ) → E i j → j < n) (at : Partway E n n 0 f) where
    step_same : (p q : ℕ) → p < n → E p q → f p ≡ f q
    step_same p q h e =
        elim (dec_lt p q) [
          | yes l ↦ at.rows p q l (below p q e) e
          | no l ↦
              elim (dec_lt q p) [
                | yes m ↦ sym (at.rows q p m h (turn p q e))
                | no m ↦ let same : p ≡ q = omega arith in ap f same
              ]
        ]

    path_same : {a b : ℕ} → Path E a b → a < n → f a ≡ f b
    path_same here h = refl
    path_same (on {i} {j} e p) h = step_same i j h e ∙ path_same p (below i j e)

    pub all_met : Labelled E n f
    all_met =
        record {
          same = λ a b ha hb p. path_same p ha;
          joins = λ a b ha hb e. path_join (rw e at (at.member a ha)) (path_back turn (at.member b hb));
          member = at.member;
          lowest = λ a b ha hb p. omega (arith, path_same p ha, at.low b hb);
        }

-- ---- a labelling of any relation that goes both ways and can be decided

module _ (E : ℕ → ℕ → Type 0) (n : ℕ) (turn : (i j : ℕ) → E i j → E j i) (decided : (i j : ℕ) → i < n → j < n → Dec (E i j)) where
  abbrev Labels : ℕ → ℕ → Type 0
  Labels j i = (f : ℕ → ℕ) × Partway E n j i f

  pair_labels : (i j : ℕ) → i < j → j < n → Labels j i → Labels j (i + 1)
  pair_labels i j h k (f, at) = go (decided i j (omega arith) k)
    where
      go : Dec (E i j) → Labels j (i + 1)
      go (no none) = (f, met_no_edge E n j i f at h k none)
      go (yes e) =
          elim (dec_lt (f i) (f j)) [
            | yes l ↦ ((λ t. instead (f j) (f i) (f t)), met_lower E n j i f at h k turn e _ l (λ t _. refl))
            | no l ↦ ((λ t. instead (f i) (f j) (f t)), met_upper E n j i f at h k turn e _ (omega arith) (λ t _. refl))
          ]

  row_labels : (j m : ℕ) → j < n → m ≤ j → Labels j 0 → Labels j m
  row_labels j zero h k w = w
  row_labels j (suc m) h k w = subst (Labels j) (add-one m) (pair_labels m j k h (row_labels j m h (omega arith) w))

  all_labels : (m : ℕ) → m ≤ n → Labels m 0
  all_labels zero h = ((λ i. i), none_met E n (λ i. i) (λ i _. refl))
  all_labels (suc m) h =
      let (f, at) = row_labels m m h (le_refl m) (all_labels m (omega arith)) in
      (f, subst (λ k. Partway E n k 0 f) (add-one m) (row_met E n f m at))

  pub labelling : ((i j : ℕ) → E i j → j < n) → (f : ℕ → ℕ) × Labelled E n f
  labelling below = let (f, at) = all_labels n (le_refl n) in (f, all_met E n f turn below at)
