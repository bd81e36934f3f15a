-- In tidy edges each one between different nodes joins a pair that none joined before, so their number is that of the pairs of different nodes that are joined, which no
-- renumbering changes. In an answered diagram a pair has a rank exactly where an edge joins it. Assumes nothing.
use mathlib.Core.Bool.{true, false, ◌||◌, true≢false}
use mathlib.Core.List.{List, [], ◌∷◌, ◌++◌}
use mathlib.Core.Logic.{◌≢◌, inl, inr, ⊎_elim}
use mathlib.Core.Path.{◌≡◌, refl, sym, ap, ap₂, ◌∙◌}
use Prim.Native.Nat.{ℕ, ◌+◌, ◌≤◌, ◌<◌}
use native.Mathlib.Decide.{dec_lt, ℕ_discrete}
use native.Mathlib.Omega.{arith}
use borrow.Author.Tests.{eq-eqb, ne_eqb}
use lib.Dec.{ltb}
use lib.ListN.{length, length-append}
use Rattle.cd.specs.Diagrams.{Stored, joins, is_joined, none, limit, cd_of}
use Rattle.cd.specs.declared.Cd.{Cd}
use Rattle.cd.specs.declared.Node.{Node}
use Rattle.cd.specs.declared.Pair.{Pair}
use Rattle.cd.proofs.Stored.{joins_same, joins_other, joined_symmetric, joined_append, rank_joined, loaded, count_held, pairs_held}
use Rattle.filing.specs.Counts.{pair_count}
use Rattle.filing.specs.Numberings.{Numbering}
use Rattle.filing.proofs.Sums.{pairs_local, pairs_or, pairs_none, pairs_alone, pairs_renumbered}
use Rattle.lexicon.proofs.Tidy.{Tidy, more}
use Rattle.lexicon.proofs.Tidy as tidy
use Rattle.lexicon_articles.specs.Articles.{without_loops, edge_count}
use Rattle.lexicon_articles.proofs.Carried.{Carried}

-- ---- a loop is left out, and nothing else

module _ (s : Stored) (es : List Stored) where
  loop_left_out : s.first ≡ s.other → without_loops (s ∷ es) ≡ without_loops es
  unfolding without_loops
  loop_left_out e = rw (eq-eqb s.first s.other e)

  other_kept : s.first ≢ s.other → without_loops (s ∷ es) ≡ s ∷ without_loops es
  unfolding without_loops
  other_kept ne = rw (ne_eqb s.first s.other ne)

without_append : (es : List Stored) (s : Stored) → without_loops (es ++ (s ∷ [])) ≡ without_loops es ++ without_loops (s ∷ [])
unfolding without_loops
without_append [] s = refl
without_append (e ∷ es) s =
    elim (ℕ_discrete e.first e.other) [
      | yes q ↦ rw (loop_left_out e (es ++ (s ∷ [])) q, loop_left_out e es q) (without_append es s)
      | no q ↦ rw (other_kept e (es ++ (s ∷ [])) q, other_kept e es q) (ap (λ l. e ∷ l) (without_append es s))
    ]

-- ---- one edge more

-- the pairs that it joins
joins_count : (n : ℕ) (s : Stored) → s.first < n → s.other < n → pair_count (λ i j. joins i j s) n ≡ length (without_loops (s ∷ []))
unfolding without_loops
joins_count n s a b =
    elim (dec_lt s.first s.other) [
      | yes l ↦
          pairs_alone (λ i j. joins i j s) n s.first s.other l b (joins_same s.first s.other s (inl (refl, refl)))
          (λ i j k ne. joins_other i j s (⊎_elim (λ q. ne (sym q.0, sym q.1)) (λ q. omega arith)))
          ∙ sym (ap length (other_kept s [] (λ e. omega arith)))
      | no l ↦
          elim (dec_lt s.other s.first) [
            | yes m ↦
                pairs_alone (λ i j. joins i j s) n s.other s.first m a (joins_same s.other s.first s (inr (refl, refl)))
                (λ i j k ne. joins_other i j s (⊎_elim (λ q. omega arith) (λ q. ne (sym q.1, sym q.0))))
                ∙ sym (ap length (other_kept s [] (λ e. omega arith)))
            | no m ↦
                pairs_none (λ i j. joins i j s) n (λ i j k h. joins_other i j s (⊎_elim (λ q. omega arith) (λ q. omega arith)))
                ∙ sym (ap length (loop_left_out s [] (omega arith)))
          ]
    ]

pub tidy_count : {n : ℕ} {es : List Stored} → Tidy n es → pair_count (is_joined es) n ≡ length (without_loops es)
unfolding is_joined without_loops
tidy_count {n} tidy.none = pairs_none (is_joined []) n (λ i j l h. refl)
tidy_count {n} (more {es} {s} w f) =
    pairs_local (is_joined (es ++ (s ∷ []))) (λ i j. is_joined es i j || joins i j s) n (λ i j l h. joined_append es s i j)
    ∙ pairs_or (is_joined es) (λ i j. joins i j s) n new
    ∙ ap₂ ◌+◌ (tidy_count w) (joins_count n s f.first_in f.other_in)
    ∙ sym (ap length (without_append es s) ∙ length-append (without_loops es) (without_loops (s ∷ [])))
  where
    new : (i j : ℕ) → is_joined es i j ≡ true → joins i j s ≡ false
    new i j h =
        joins_other i j s
        (⊎_elim
        (λ q. true≢false (sym h ∙ ap₂ (is_joined es) (sym q.0) (sym q.1) ∙ f.apart))
        (λ q. true≢false (sym h ∙ joined_symmetric es i j ∙ ap₂ (is_joined es) (sym q.0) (sym q.1) ∙ f.apart)))

-- ---- of two diagrams

pub edges_carried : {ns ms : List Node} {es fs : List Stored} → Carried ns es ms fs → Tidy (length ns) es → Tidy (length ms) fs → length (without_loops es) ≡ length (without_loops fs)
edges_carried {ns} {ms} {es} {fs} c tidy-s tidy-t =
    sym (tidy_count tidy-s)
    ∙ pairs_local (is_joined es) (λ i j. is_joined fs (c.to i) (c.to j)) (length ns) (λ i j l h. c.joined i j (omega arith) h (λ e. omega arith))
    ∙ pairs_renumbered (is_joined fs) (joined_symmetric fs) c.to (length ns) numbering
    ∙ ap (pair_count (is_joined fs)) c.size
    ∙ tidy_count tidy-t
  where
    numbering : Numbering (length ns) c.to
    numbering = record {
      within = λ i h. omega (arith, c.to_in i h, c.size);
      apart = λ i j h k e. sym (c.from_to i h) ∙ ap c.from e ∙ c.from_to j k;
    }

-- ---- of an answered diagram

pub edges_answered : (cd : Cd) (ns : List Node) (es : List Stored) → cd ≡ cd_of ns es → length ns ≤ limit → Tidy (length ns) es → edge_count cd ≡ length (without_loops es)
edges_answered cd ns es held few w =
    rw (count_held cd ns es held, pairs_held cd ns es held)
    (pairs_local _ (is_joined es) (length ns)
    (λ i j l h. ap (λ (p : Pair). ltb 0 p.rank) (loaded es i j none (omega arith) (omega arith)) ∙ rank_joined 1 es i j (omega arith))
    ∙ tidy_count w)
