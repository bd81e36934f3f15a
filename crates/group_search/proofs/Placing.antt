-- The search place by place: a node that agrees with those at the places before goes to the next place; what goes on from the first k places has at place k a node
-- that agrees, so that once none is left, nothing goes on. A component of as many nodes as are placed has no other node. Assumes nothing.
use mathlib.Core.List.{List}
use mathlib.Core.Logic.{◌≢◌}
use mathlib.Core.Path.{◌≡◌, refl, sym, ap, ◌∙◌, subst}
use Prim.Native.Nat.{ℕ, zero, suc, ◌+◌, ◌-◌, ◌≤◌, ◌<◌, zero-le}
use native.Mathlib.Decide.{ℕ_discrete, dec_lt}
use native.Mathlib.Nat.{not-suc-le-zero, zero-add, suc-add, le_refl, le_trans}
use native.Mathlib.Numerals.{add-one}
use native.Mathlib.Omega.{arith}
use borrow.Author.Tests.{eq-eqb, ne_eqb}
use lib.ListN.{length, set, length-set}
use Rattle.std.specs.Prelude.{◌==◌, count_by, take}
use Rattle.std.proofs.lemmas.List.Sums.{count_by_more_yes, count_by_more_no}
use Rattle.filing.specs.Numberings.{Injects, at}
use Rattle.filing.specs.Sequences.{Agree}
use Rattle.filing.proofs.Bytes.{one_more}
use Rattle.filing.proofs.Numberings.{Found, onto}
use Rattle.filing.proofs.Searching.{put_same, put_below}
use Rattle.group_names.specs.declared.Name.{Name}
use Rattle.group_search.specs.Steps.{Agrees, Suits, Embeds, GoesOn, Ready, label_count}

-- the nodes below v have been tried at place k: what goes on from the first k places of p has none of them there
abbrev pub Tried : ℕ → List ℕ → List ℕ → ℕ → ℕ → Name → ℕ → ℕ → List ℕ → ℕ → Type 0
Tried N pairs of n c x m k p v = (q : ℕ → ℕ) → Embeds N pairs of n c x m q → Agree k q (at p) → v ≤ q k

module _ {N : ℕ} {pairs of : List ℕ} {n c : ℕ} {x : Name} where
  -- ---- one place more: v at place k of p

  put : {k : ℕ} (p : List ℕ) (v : ℕ) → Embeds N pairs of n c x k (at p) → k < length p → v < n → at of v ≡ c → Suits N pairs x (at p) k v → Embeds N pairs of n c x (suc k) (at (set p k v))
  put {k} p v e hk hv hc s = record {
    within = one_more (λ i. at (set p k v) i < n) (λ i l. rw (put_below p k v i l) (e.within i l)) (rw (put_same p k v hk) hv);
    label = one_more (λ i. at of (at (set p k v) i) ≡ c) (λ i l. rw (put_below p k v i l) (e.label i l)) (rw (put_same p k v hk) hc);
    agree = λ i j h l.
        one_more (λ j. (i : ℕ) → i < j → Agrees N pairs x i j (at (set p k v) i) (at (set p k v) j))
        (λ j m i h. rw (put_below p k v i (omega arith), put_below p k v j m) (e.agree i j h m))
        (λ i h. rw (put_below p k v i h, put_same p k v hk) (s i h)) j l i h;
  }

  module _ {m k : ℕ} {p : List ℕ} (r : Ready N pairs of n c x m k p) where
    pub ready_deeper : {v : ℕ} → k < m → v < n → at of v ≡ c → Suits N pairs x (at p) k v → Ready N pairs of n c x m (k + 1) (set p k v)
    ready_deeper {v} hk hv hc s = record {
      few = r.few;
      small = r.small;
      depth = omega arith;
      room = length-set p k v ∙ r.room;
      filled = rw add-one (put p v r.filled (omega (arith, r.room, r.small)) hv hc s);
    }

    -- ---- the nodes tried at place k
    tried_more : {v : ℕ} → Tried N pairs of n c x m k p v → ((q : ℕ → ℕ) → Embeds N pairs of n c x m q → Agree k q (at p) → q k ≡ v → ⊥) → Tried N pairs of n c x m k p (v + 1)
    tried_more {v} t not q e h = go (ℕ_discrete (q k) v)
      where
        go : Dec (q k ≡ v) → v + 1 ≤ q k
        go (yes s) = absurd (not q e h s)
        go (no s) = omega (arith, t q e h)

    module _ (hk : k < m) {v : ℕ} (t : Tried N pairs of n c x m k p v) where
      pub tried_label : at of v ≢ c → Tried N pairs of n c x m k p (v + 1)
      tried_label other = tried_more t (λ q e h s. other (ap (at of) (sym s) ∙ e.label k hk))

      pub tried_unsuited : (Suits N pairs x (at p) k v → ⊥) → Tried N pairs of n c x m k p (v + 1)
      tried_unsuited not = tried_more t (λ q e h s. not (λ i l. rw (h i l, s) at (e.agree i k l hk)))

      pub tried_deeper : (GoesOn N pairs of n c x m (k + 1) (set p k v) → ⊥) → Tried N pairs of n c x m k p (v + 1)
      tried_deeper not =
          tried_more t (λ q e h s.
          not (q, e, λ i l. one_more (λ i. q i ≡ at (set p k v) i) (λ i b. h i b ∙ sym (put_below p k v i b)) (s ∙ sym (put_same p k v (omega (arith, r.room, r.small)))) i (rw add-one at l)))

pub ready_start : {N n c m : ℕ} (pairs of p : List ℕ) (x : Name) → n ≤ N → m ≤ N → length p ≡ N → Ready N pairs of n c x m 0 p
ready_start pairs of p x few small room = record {
  few = few;
  small = small;
  depth = zero-le;
  room = room;
  filled = record { within = λ i h. absurd (not-suc-le-zero h); label = λ i h. absurd (not-suc-le-zero h); agree = λ i j h l. absurd (not-suc-le-zero l) };
}

-- ---- as many nodes as the component has

module _ (of : List ℕ) (c : ℕ) where
  count_none : label_count of c zero ≤ zero
  unfolding label_count
  count_none = zero-le

  count_zero : label_count of c zero ≡ count_by (λ x. x == c) (take zero of)
  unfolding label_count
  count_zero = refl

  pub count_yes : (k : ℕ) → at of k ≡ c → label_count of c (suc k) ≡ suc (label_count of c k)
  unfolding label_count
  count_yes k e = rw (eq-eqb (at of k) c e)

  pub count_no : (k : ℕ) → at of k ≢ c → label_count of c (suc k) ≡ label_count of c k
  unfolding label_count
  count_no k e = rw (ne_eqb (at of k) c e)

  -- the count is that of the labels
  pub count_taken : (k : ℕ) → k ≤ length of → label_count of c k ≡ count_by (λ x. x == c) (take k of)
  count_taken zero h = count_zero
  count_taken (suc k) h = go (ℕ_discrete (at of k) c) (count_taken k (omega arith))
    where
      go : Dec (at of k ≡ c) → label_count of c k ≡ count_by (λ x. x == c) (take k of) → label_count of c (suc k) ≡ count_by (λ x. x == c) (take (suc k) of)
      go (yes e) less =
          let m : count_by (λ x. x == c) (take (suc k) of) ≡ count_by (λ x. x == c) (take k of) + 1 = rw (← add-one k) (count_by_more_yes (λ x. x == c) of k 0 h (eq-eqb (at of k) c e)) in
          omega (arith, count_yes k e)
      go (no e) less =
          let m : count_by (λ x. x == c) (take (suc k) of) ≡ count_by (λ x. x == c) (take k of) = rw (← add-one k) (count_by_more_no (λ x. x == c) of k 0 h (ne_eqb (at of k) c e)) in
          omega (arith, count_no k e)

  pub count_le : (k : ℕ) → label_count of c k ≤ k
  count_le zero = count_none
  count_le (suc k) = elim (ℕ_discrete (at of k) c) [ yes e ↦ omega (arith, count_yes k e, count_le k) | no e ↦ omega (arith, count_no k e, count_le k) ]

  count_step : (k : ℕ) → label_count of c k ≤ label_count of c (suc k)
  count_step k = elim (ℕ_discrete (at of k) c) [ yes e ↦ omega (arith, count_yes k e) | no e ↦ omega (arith, count_no k e) ]

  count_mono : (d a : ℕ) → label_count of c a ≤ label_count of c (d + a)
  count_mono zero a = rw (zero-add a) (le_refl (label_count of c a))
  count_mono (suc d) a = rw (suc-add d a) (le_trans (count_mono d a) (count_step (d + a)))

  -- two nodes of the component have a different number of its nodes below them
  pub rank_less : (a b : ℕ) → a < b → at of a ≡ c → label_count of c a < label_count of c b
  rank_less a b h e =
      let d : ℕ = b - suc a in
      let s : d + suc a ≡ b = omega arith in
      omega (arith, count_yes a e, subst (λ z. label_count of c (suc a) ≤ label_count of c z) s (count_mono d (suc a)))

  pub rank_apart : (a b : ℕ) → at of a ≡ c → at of b ≡ c → label_count of c a ≡ label_count of c b → a ≡ b
  rank_apart a b ea eb e =
      elim (dec_lt a b) [
        | yes l ↦ (let z : ⊥ = omega (arith, rank_less a b l ea) in absurd z)
        | no l ↦
            elim (dec_lt b a) [
              | yes m ↦ (let z : ⊥ = omega (arith, rank_less b a m eb) in absurd z)
              | no m ↦ omega arith
            ]
      ]

  -- m nodes of the component that differ, m being their number, are all of them
  pub label_onto : {n m : ℕ} {f : ℕ → ℕ} → m ≡ label_count of c n → ((i : ℕ) → i < m → f i < n) → ((i : ℕ) → i < m → at of (f i) ≡ c) → ((i j : ℕ) → i < m → j < m → f i ≡ f j → i ≡ j) → (v : ℕ) → v < n → at of v ≡ c → Found m f v
  label_onto {n} {m} {f} e within label apart v hv hc =
      let low : (u : ℕ) → u < n → at of u ≡ c → label_count of c u < m = λ u h l. omega (arith, rank_less u n h l) in
      let all : Injects m m (λ i. label_count of c (f i)) = record {
        within = λ i h. low (f i) (within i h) (label i h);
        apart = λ i j h k s. apart i j h k (rank_apart (f i) (f j) (label i h) (label j k) s);
      } in
      let (i, h, s) = onto all (label_count of c v) (low v hv hc) in
      (i, h, rank_apart (f i) v (label i h) hc s)
