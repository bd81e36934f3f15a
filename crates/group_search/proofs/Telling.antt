-- If no candidate can be placed, then no name can: a component of two nodes has one pair, and the candidate's p is that one's. Assumes nothing.
use mathlib.Core.List.{List}
use mathlib.Core.Path.{◌≡◌, refl, sym, ap, ap₂, ◌∙◌, subst}
use Prim.Native.Nat.{ℕ, zero, suc, ◌+◌, ◌*◌, ◌^◌, ◌<◌}
use native.Mathlib.Decide.{dec_lt}
use native.Mathlib.Omega.{arith}
use lib.ListN.{get_or}
use Rattle.std.specs.Prelude.{Option, Some, None, MatchOption}
use Rattle.std.specs.Option.{unwrap_or}
use Rattle.filing.specs.Numberings.{at}
use Rattle.group_names.specs.Names.{rank}
use Rattle.group_names.specs.declared.Name.{Name}
use Rattle.group_names.specs.declared.Name.TheVariants.{A, B, D, E6, E7, E8, F4, H3, H4, I2}
use Rattle.group_names.proofs.NamesRight.{edges_I2}
use Rattle.group_search.specs.Steps.{whole_number, Embeds, label_count, Placed, Bond, Mirrored, candidates, Tells}
use Rattle.group_search.proofs.Placing.{label_onto}

pub embeds_apart : {N n c m : ℕ} {pairs of : List ℕ} {x : Name} {f : ℕ → ℕ} → Embeds N pairs of n c x m f → (i j : ℕ) → i < m → j < m → f i ≡ f j → i ≡ j
embeds_apart e i j h k s =
    elim (dec_lt i j) [
      | yes l ↦ absurd ((e.agree i j l k).other s)
      | no l ↦
          elim (dec_lt j i) [
            | yes g ↦ absurd ((e.agree j i g h).other (sym s))
            | no g ↦ omega arith
          ]
    ]

two_nodes : (p : ℕ) → rank (I2 p) ≡ 2
unfolding rank
two_nodes p = refl

module _ (N : ℕ) (pairs of : List ℕ) {n c m : ℕ} (inside : c < n) (mirrored : Mirrored N n pairs) (own : at of c ≡ c) (counted : m ≡ label_count of c n) where
  -- of two nodes, the p is what joins them
  bond_is : {q : ℕ} (r : Option ℕ) → Bond N pairs of n c r → Placed N pairs of n c m (I2 q) → q ≡ unwrap_or r 0
  bond_is {q} None only p =
      let e = p.embeds in
      let two : 2 ≡ m = sym (two_nodes q) ∙ p.size in
      let h0 : 0 < m = omega arith in
      let h1 : 1 < m = omega arith in
      absurd ((e.agree 0 1 (omega arith) h1).other (only _ (e.within 0 h0) (e.label 0 h0) ∙ sym (only _ (e.within 1 h1) (e.label 1 h1))))
  bond_is {q} (Some r) (v, hv, lv, ne, s) p =
      let (i, hi, fi) = label_onto of c counted e.within e.label (embeds_apart e) c inside own in
      let (j, hj, fj) = label_onto of c counted e.within e.label (embeds_apart e) v hv lv in
      go i j (omega (arith, two, hi)) (omega (arith, two, hj)) fi fj
    where
      e : Embeds N pairs of n c (I2 q) m p.places
      e = p.embeds

      two : 2 ≡ m
      two = sym (two_nodes q) ∙ p.size

      joined : at pairs (N * p.places 0 + p.places 1) ≡ q * 2 ^ 32 + 1
      joined = (e.agree 0 1 (omega arith) (omega (arith, two))).joined ∙ ap whole_number (edges_I2 q)

      known : at pairs (N * c + v) ≡ q * 2 ^ 32 + 1 → q ≡ r
      known k = omega (arith, s, k)

      go : (i j : ℕ) → i < 2 → j < 2 → p.places i ≡ c → p.places j ≡ v → q ≡ r
      go zero zero hi hj fi fj = absurd (ne (sym fj ∙ fi))
      go zero (suc zero) hi hj fi fj = known (sym (ap₂ (λ a b. at pairs (N * a + b)) fi fj) ∙ joined)
      go (suc zero) zero hi hj fi fj = known (mirrored c v inside hv ∙ sym (ap₂ (λ a b. at pairs (N * b + a)) fi fj) ∙ joined)
      go (suc zero) (suc zero) hi hj fi fj = absurd (ne (sym fj ∙ fi))
      go (suc (suc i)) j hi hj fi fj = let z : ⊥ = omega arith in absurd z
      go zero (suc (suc j)) hi hj fi fj = let z : ⊥ = omega arith in absurd z
      go (suc zero) (suc (suc j)) hi hj fi fj = let z : ⊥ = omega arith in absurd z

  -- if no candidate can be placed, no name can
  none_of : (r : Option ℕ) (d : Name) → Bond N pairs of n c r → ((k : ℕ) → k < 10 → Placed N pairs of n c m (get_or (candidates m (unwrap_or r 0)) k d) → ⊥) → (x : Name) → Placed N pairs of n c m x → ⊥
  unfolding rank candidates
  none_of r d bond not (A k) p = not 0 (omega arith) (subst (λ z. Placed N pairs of n c m (A z)) p.size p)
  none_of r d bond not (B k) p = not 1 (omega arith) (subst (λ z. Placed N pairs of n c m (B z)) p.size p)
  none_of r d bond not (D k) p = not 2 (omega arith) (subst (λ z. Placed N pairs of n c m (D z)) p.size p)
  none_of r d bond not E6 p = not 3 (omega arith) p
  none_of r d bond not E7 p = not 4 (omega arith) p
  none_of r d bond not E8 p = not 5 (omega arith) p
  none_of r d bond not F4 p = not 6 (omega arith) p
  none_of r d bond not H3 p = not 7 (omega arith) p
  none_of r d bond not H4 p = not 8 (omega arith) p
  none_of r d bond not (I2 q) p = not 9 (omega arith) (subst (λ z. Placed N pairs of n c m (I2 z)) (bond_is r bond p) p)

  -- what is told of a name that was found among the candidates, or of none
  pub tells_found : (r : Option ℕ) (d : Name) (all : List Name) (o : Option Name) → all ≡ candidates m (unwrap_or r 0) → Bond N pairs of n c r
      → MatchOption o ((k : ℕ) → k < 10 → Placed N pairs of n c m (get_or all k d) → ⊥) (Placed N pairs of n c m) → Tells N pairs of n c o
  tells_found r d all None e bond not = λ x p. none_of r d bond (λ k h q. not k h (subst (λ z. Placed N pairs of n c m (get_or z k d)) (sym e) q)) x (subst (λ k. Placed N pairs of n c k x) (sym counted) p)
  tells_found r d all (Some x) e bond p = subst (λ k. Placed N pairs of n c k x) counted p
