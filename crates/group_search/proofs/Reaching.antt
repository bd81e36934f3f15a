-- A name is placed by labels and numbers exactly when a renumbering carries the component's edges onto the name's. Equal labels mean a path, a pair's number is a
-- whole number's exactly when its fraction is that number, and a renumbering of the component places as many nodes as it has. Assumes nothing.
use mathlib.Core.List.{List}
use mathlib.Core.Logic.{◌≢◌, ◌↔◌}
use mathlib.Core.Path.{◌≡◌, refl, sym, ap, ◌∙◌}
use Prim.Native.Nat.{ℕ, zero, suc, ◌+◌, ◌*◌, ◌^◌, ◌≤◌, ◌<◌}
use native.Mathlib.Decide.{dec_lt, ℕ_discrete}
use native.Mathlib.Nat.{mod-one, div-one, not-suc-le-zero, le_antisymm}
use native.Mathlib.Omega.{arith}
use Rattle.cd.specs.Diagrams.{Stored}
use Rattle.cd.specs.Minimal.{Linked}
use Rattle.cd.specs.Paths.{Path, Labelled}
use Rattle.filing.specs.Diagrams.{IsEdge}
use Rattle.filing.specs.Fractions.{Fraction, SameFraction, gcd, lowest}
use Rattle.filing.specs.Numberings.{at}
use Rattle.filing.proofs.Gcd.{lowest_same, lowest_den_le, gcd_pos, gcd_zero}
use Rattle.minimal.proofs.Paths.{path_in}
use Rattle.tables.specs.Diagrams.{joint}
use Rattle.tables.specs.Tables.{number}
use Rattle.tables.proofs.Joints.{joint_symmetric}
use Rattle.group_names.specs.Names.{rank, entry}
use Rattle.group_names.specs.Named as named
use Rattle.group_names.specs.Named.{over1, Fits, Named, Nameless, Lowest, Lists}
use Rattle.group_names.specs.declared.Group.{Group}
use Rattle.group_names.specs.declared.Name.{Name}
use Rattle.group_names.proofs.Entries.{entry_symmetric}
use Rattle.group_names.proofs.Matching.{matched_le}
use Rattle.group_search.specs.Steps.{whole_number, Agrees, Embeds, label_count, Takes, Walks, none, passed, listed}
use Rattle.group_search.proofs.Placing.{count_yes, count_no, rank_less, rank_apart, label_onto}
use Rattle.group_search.proofs.Telling.{embeds_apart}

-- ---- whole numbers

gcd_whole : (m : ℕ) → gcd m 1 ≡ 1
gcd_whole m = gcd_pos m (omega arith) ∙ ap (gcd 1) (mod-one m) ∙ gcd_zero 1

lowest_whole : (m : ℕ) → lowest (over1 m) ≡ over1 m
unfolding lowest
lowest_whole m = rw (gcd_whole m, div-one m)

-- lowest terms with a den below 2 ^ 32 that spell the number of a whole one are that one
parts : {a b m : ℕ} → b < 2 ^ 32 → a * 2 ^ 32 + b ≡ whole_number m → (a ≡ m) × (b ≡ 1)
parts h e = (omega arith, omega arith)

pub whole_number_lem : (x : Fraction) (m : ℕ) → IsEdge x → (number x ≡ whole_number m) ↔ SameFraction x (over1 m)
unfolding number
whole_number_lem x m h = (to, from)
  where
    same : SameFraction x (over1 m) ↔ (lowest x ≡ lowest (over1 m))
    same = lowest_same x (over1 m) h.den_pos (omega arith)

    to : number x ≡ whole_number m → SameFraction x (over1 m)
    to e =
        let p = parts {a = (lowest x).num} {b = (lowest x).den} {m = m} (omega (arith, lowest_den_le x, h.fits, h.above_one)) e in
        let q : lowest x ≡ over1 m = λ i. record { num = p.0 i; den = p.1 i } in
        same.1 (q ∙ sym (lowest_whole m))

    from : SameFraction x (over1 m) → number x ≡ whole_number m
    from s = ap (λ z. z.num * 2 ^ 32 + z.den) (same.0 s ∙ lowest_whole m)

-- ---- the k-th node of a component

member_at : (of : List ℕ) (c n k : ℕ) → k < label_count of c n → (v : ℕ) × (v < n) × (at of v ≡ c) × (label_count of c v ≡ k)
unfolding label_count
member_at of c zero k h = absurd (not-suc-le-zero h)
member_at of c (suc n) k h = go (λ l. let (v, hv, e, m) = member_at of c n k l in (v, omega arith, e, m)) (ℕ_discrete (at of n) c)
  where
    go : (k < label_count of c n → (v : ℕ) × (v < suc n) × (at of v ≡ c) × (label_count of c v ≡ k)) → Dec (at of n ≡ c) → (v : ℕ) × (v < suc n) × (at of v ≡ c) × (label_count of c v ≡ k)
    go earlier (no o) = earlier (omega (arith, count_no of c n o))
    go earlier (yes e) =
        elim (dec_lt k (label_count of c n)) [
          | yes l ↦ earlier l
          | no l ↦ (n, omega arith, e, omega (arith, count_yes of c n e))
        ]

-- ---- labels and paths, numbers and fractions

module _ (n : ℕ) (es : List Stored) (N : ℕ) (pairs of : List ℕ)
    (labelled : Labelled (Linked n es) n (at of))
    (numbers : (u v : ℕ) → u < n → v < n → u ≢ v → at pairs (N * u + v) ≡ number (joint es u v))
    (edges : (u v : ℕ) → u < n → v < n → u ≢ v → IsEdge (joint es u v)) where
  module _ {c : ℕ} (hc : c < n) (own : at of c ≡ c) where
    label_path : (v : ℕ) → v < n → at of v ≡ c → Path (Linked n es) c v
    label_path v hv e = labelled.joins c v hc hv (own ∙ sym e)

    path_label : (v : ℕ) → Path (Linked n es) c v → at of v ≡ c
    path_label v p = sym (labelled.same c v hc (path_in hc p) p) ∙ own

    module _ {x : Name} where
      pub takes_named : Takes N pairs of n c x → Named n es c x
      takes_named t = record { valid = t.valid; places = f; fits = record { inside = within; apart = apart; all = all; edges = between } }
        where
          f : ℕ → ℕ
          f = t.places

          m : ℕ
          m = label_count of c n

          e : Embeds N pairs of n c x m f
          e = t.embeds

          low : (i : ℕ) → i < rank x → i < m
          low i h = rw t.size at h

          within : (i : ℕ) → i < rank x → Path (Linked n es) c (f i)
          within i h = label_path (f i) (e.within i (low i h)) (e.label i (low i h))

          apart : (i j : ℕ) → i < rank x → j < rank x → f i ≡ f j → i ≡ j
          apart i j h k = embeds_apart e i j (low i h) (low j k)

          all : (v : ℕ) → Path (Linked n es) c v → (i : ℕ) × (i < rank x) × (f i ≡ v)
          all v p =
              let (i, h, s) = label_onto of c refl e.within e.label (embeds_apart e) v (path_in hc p) (path_label v p) in
              (i, omega (arith, t.size, h), s)

          rising : (i j : ℕ) → i < j → j < m → SameFraction (joint es (f i) (f j)) (over1 (entry x i j))
          rising i j h k =
              let a = e.agree i j h k in
              let hi : f i < n = e.within i (omega arith) in
              let hj : f j < n = e.within j k in
              (whole_number_lem (joint es (f i) (f j)) (entry x i j) (edges (f i) (f j) hi hj a.other)).0 (sym (numbers (f i) (f j) hi hj a.other) ∙ a.joined)

          between : (i j : ℕ) → i < rank x → j < rank x → i ≢ j → SameFraction (joint es (f i) (f j)) (over1 (entry x i j))
          between i j h k ne = go (dec_lt i j)
            where
              go : Dec (i < j) → SameFraction (joint es (f i) (f j)) (over1 (entry x i j))
              go (yes l) = rising i j l (low j k)
              go (no l) = rw (joint_symmetric es (f i) (f j), entry_symmetric x i j) (rising j i (omega arith) (low i h))

      pub named_takes : Named n es c x → Takes N pairs of n c x
      named_takes d = record {
        valid = d.valid;
        size = le_antisymm upper lower;
        places = f;
        embeds = record { within = λ i h. below i (high i h); label = λ i h. labels i (high i h); agree = λ i j h k. agree i j h (high j k) };
      }
        where
          f : ℕ → ℕ
          f = d.places

          t : Fits n es c x f
          t = d.fits

          below : (i : ℕ) → i < rank x → f i < n
          below i h = path_in hc (t.inside i h)

          labels : (i : ℕ) → i < rank x → at of (f i) ≡ c
          labels i h = path_label (f i) (t.inside i h)

          upper : rank x ≤ label_count of c n
          upper =
              matched_le (λ i k. label_count of c (f i) ≡ k) (λ i h. (label_count of c (f i), rank_less of c (f i) n (below i h) (labels i h), refl))
              (λ i k j h l p q. t.apart i k h l (rank_apart of c (f i) (f k) (labels i h) (labels k l) (p ∙ sym q)))

          lower : label_count of c n ≤ rank x
          lower =
              matched_le (λ k i. label_count of c (f i) ≡ k)
              (λ k h. let (v, hv, e, s) = member_at of c n k h in let (i, hi, z) = t.all v (label_path v hv e) in (i, hi, ap (label_count of c) z ∙ s))
              (λ i k j h l p q. sym p ∙ q)

          high : (i : ℕ) → i < label_count of c n → i < rank x
          high i h = omega (arith, upper, lower)

          agree : (i j : ℕ) → i < j → j < rank x → Agrees N pairs x i j (f i) (f j)
          agree i j h k =
              let hi : i < rank x = omega arith in
              let ne : f i ≢ f j = λ e. (let z : i ≡ j = t.apart i j hi k e in let o : ⊥ = omega arith in absurd o) in
              record {
                other = ne;
                joined = numbers (f i) (f j) (below i hi) (below j k) ne
                    ∙ (whole_number_lem (joint es (f i) (f j)) (entry x i j) (edges (f i) (f j) (below i hi) (below j k) ne)).1 (t.edges i j hi k (λ e. omega arith));
              }

  -- ---- the list of components

  label_lowest : (k : ℕ) → k < n → at of k ≡ k → Lowest n es k
  label_lowest k h own v p = omega (arith, labelled.lowest k v h (path_in h p) p)

  lowest_label : (k : ℕ) → k < n → Lowest n es k → at of k ≡ k
  lowest_label k h low =
      let p = labelled.member k h in
      le_antisymm (labelled.lowest k k h h Path.here) (low (at of k) p)

  pub walks_lists : {k : ℕ} {gs : List Group} → k ≤ n → Walks N pairs of n k gs → Lists n es k gs
  walks_lists h none = named.none
  walks_lists h (passed {k} w o) = named.passed (walks_lists (omega arith) w) (λ low. o (lowest_label k h low))
  walks_lists h (listed {k} w own t) = named.listed (walks_lists (omega arith) w) (label_lowest k h own) (takes_named h own t)

  pub nameless_component : {c : ℕ} → c < n → at of c ≡ c → ((x : Name) → Takes N pairs of n c x → ⊥) → Lowest n es c × Nameless n es c
  nameless_component {c} h own not = (label_lowest c h own, λ x d. not x (named_takes h own d))
