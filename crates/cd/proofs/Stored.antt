-- An edge that is stored after the others changes what joins its own two nodes, if nothing did, and no other pair: so the array of all pairs
-- changes in that pair's place alone. A pair has a rank exactly where a stored edge joins it. Assumes nothing.
use Prim.Native.Nat.{ℕ, suc, ◌+◌, ◌<◌}
use mathlib.Core.Bool.{Bool, true, false, ◌&&◌, ◌||◌, or_comm, or_assoc}
use mathlib.Core.List.{List, [], ◌∷◌, ◌++◌, map}
use mathlib.Core.Logic.{inl, inr, ⊎_elim}
use mathlib.Core.Path.{◌≡◌, refl, sym, ap, ◌∙◌}
use native.Mathlib.Nat.{add_comm, add-zero, not-suc-le-zero}
use native.Mathlib.Omega.{arith}
use borrow.Author.Tests.{eqb-true, eq-eqb, lt-ltb}
use lib.Dec.{eqb, ltb}
use lib.ListN.{length, get_or, set, replicate, get_or-map}
use Rattle.float.specs.Pick.{pick}
use Rattle.cd.specs.Arrays.{padded, triangle}
use Rattle.cd.specs.Diagrams.{Stored, joins, is_joined, none, between, limit, place_of, place, cd_of}
use Rattle.cd.specs.declared.Cd.{Cd}
use Rattle.cd.specs.declared.Edge.{Edge}
use Rattle.cd.specs.declared.Node.{Node}
use Rattle.cd.specs.declared.Node.TheVariants.{Unringed}
use Rattle.cd.specs.declared.Pair.{Pair}
use Rattle.cd.specs.declared.Place.{Place}
use Rattle.cd.proofs.Arrays.{Same, get_or_padded, get_or_triangle, set_triangle, triangle_blank}
use Rattle.cd.proofs.Decided.{and_false}

-- ---- joins

module _ (i j : ℕ) (s : Stored) where
  pub joins_symmetric : joins i j s ≡ joins j i s
  unfolding joins
  joins_symmetric = or_comm (eqb s.first i && eqb s.other j) (eqb s.first j && eqb s.other i)

  pub joins_same : Same s.first s.other i j → joins i j s ≡ true
  unfolding joins
  joins_same h =
      ⊎_elim
      (λ p. rw (eq-eqb s.first i p.0, eq-eqb s.other j p.1))
      (λ p. rw (or_comm (eqb s.first i && eqb s.other j), eq-eqb s.first j p.0, eq-eqb s.other i p.1))
      h

  pub joins_other : (Same s.first s.other i j → ⊥) → joins i j s ≡ false
  unfolding joins
  joins_other h =
      rw (
        and_false (eqb s.first i) (eqb s.other j) (λ p q. h (inl (eqb-true s.first i p, eqb-true s.other j q))),
        and_false (eqb s.first j) (eqb s.other i) (λ p q. h (inr (eqb-true s.first j p, eqb-true s.other i q))),
      )

-- ---- whether an edge joins two nodes

pub joined_symmetric : (es : List Stored) (i j : ℕ) → is_joined es i j ≡ is_joined es j i
unfolding is_joined
joined_symmetric [] i j = refl
joined_symmetric (s ∷ es) i j = rw (joins_symmetric i j s, joined_symmetric es i j)

pub joined_append : (es : List Stored) (s : Stored) (i j : ℕ) → is_joined (es ++ (s ∷ [])) i j ≡ is_joined es i j || joins i j s
unfolding is_joined
joined_append [] s i j = or_comm (joins i j s) false
joined_append (e ∷ es) s i j = rw (joined_append es s i j) (sym (or_assoc (joins i j e) (is_joined es i j) (joins i j s)))

-- ---- between

pub between_symmetric : (k : ℕ) (es : List Stored) (i j : ℕ) → between k es i j ≡ between k es j i
unfolding between
between_symmetric k [] i j = refl
between_symmetric k (s ∷ es) i j = rw (joins_symmetric i j s, between_symmetric (k + 1) es i j)

between_same : (k : ℕ) (es : List Stored) (a b i j : ℕ) → Same a b i j → between k es i j ≡ between k es a b
between_same k es a b i j = ⊎_elim (λ p. rw (p.0, p.1)) (λ p. rw (p.0, p.1) (between_symmetric k es i j))

-- of two, one with a rank was not picked where the rank is 0
not_first : (t : Bool) (p q : Pair) → 0 < p.rank → (pick t p q).rank ≡ 0 → t ≡ false
not_first true p q l h = let z : ⊥ = omega arith in absurd z
not_first false p q l h = refl

pub between_append : (k : ℕ) (es : List Stored) (s : Stored) (i j : ℕ) → (between k es i j).rank ≡ 0 → 0 < k → between k (es ++ (s ∷ [])) i j ≡ pick (joins i j s) (record { rank = k + length es; edge = s.edge }) none
unfolding between
between_append k [] s i j h l = rw add-zero
between_append k (e ∷ es) s i j h l =
    let n : joins i j e ≡ false = not_first (joins i j e) (record { rank = k; edge = e.edge }) (between (k + 1) es i j) l h in
    let m : k + 1 + length es ≡ k + suc (length es) = omega arith in
    rw n (between_append (k + 1) es s i j (rw n at h) (omega arith) ∙ rw m)

-- what joins two nodes stays where the edge joins others
pub between_other : (k : ℕ) (es : List Stored) (s : Stored) (i j : ℕ) → joins i j s ≡ false → between k (es ++ (s ∷ [])) i j ≡ between k es i j
unfolding between
between_other k [] s i j h = rw h
between_other k (e ∷ es) s i j h = rw (between_other (k + 1) es s i j h)

kept : (t : Bool) (p q r : Pair) → 0 < (pick t p q).rank → (0 < q.rank → r ≡ q) → pick t p r ≡ pick t p q
kept true p q r h f = refl
kept false p q r h f = f h

-- and where an edge joined them before
pub between_kept : (k : ℕ) (es : List Stored) (s : Stored) (i j : ℕ) → 0 < (between k es i j).rank → between k (es ++ (s ∷ [])) i j ≡ between k es i j
unfolding between
between_kept k [] s i j h = absurd (not-suc-le-zero h)
between_kept k (e ∷ es) s i j h =
    kept (joins i j e) (record { rank = k; edge = e.edge }) (between (k + 1) es i j) (between (k + 1) (es ++ (s ∷ [])) i j) h (between_kept (k + 1) es s i j)

-- ---- whether an edge is stored

-- of two, one with a rank: the one picked has a rank where that one is picked, or the other has
rank_picked : (t : Bool) (p q : Pair) → 0 < p.rank → ltb 0 (pick t p q).rank ≡ t || ltb 0 q.rank
rank_picked true p q l = lt-ltb 0 p.rank l
rank_picked false p q l = refl

pub rank_joined : (k : ℕ) (es : List Stored) (i j : ℕ) → 0 < k → ltb 0 (between k es i j).rank ≡ is_joined es i j
unfolding between is_joined
rank_joined k [] i j l = refl
rank_joined k (s ∷ es) i j l = rank_picked (joins i j s) (record { rank = k; edge = s.edge }) (between (k + 1) es i j) l ∙ rw (rank_joined (k + 1) es i j (omega arith))

-- ---- the array of all pairs

pub nothing_stored : triangle (between 1 []) limit ≡ replicate 45 none
unfolding between
nothing_stored = triangle_blank none limit

module _ (es : List Stored) (a b : ℕ) where
  pub loaded : (d : Pair) → a < limit → b < limit → get_or (triangle (between 1 es) limit) (place_of a b) d ≡ between 1 es a b
  loaded d p q = get_or_triangle (between 1 es) d limit a b (between_symmetric 1 es) p q

  pub stored : (e : Edge) → a < limit → b < limit → (between 1 es a b).rank ≡ 0 → set (triangle (between 1 es) limit) (place_of a b) (record { rank = length es + 1; edge = e }) ≡ triangle (between 1 (es ++ (record { first = a; other = b; edge = e } ∷ []))) limit
  stored e p q h =
      let s : Stored = record { first = a; other = b; edge = e } in
      set_triangle (between 1 es) (between 1 (es ++ (s ∷ []))) (record { rank = length es + 1; edge = e }) limit a b p q
      (λ i j l m. between_append 1 es s i j (ap (λ (x : Pair). x.rank) (between_same 1 es a b i j m) ∙ h) (omega arith) ∙ rw (joins_same i j s m, add_comm 1))
      (λ i j l m. between_other 1 es s i j (joins_other i j s m))

-- ---- what the code holds of a diagram

module _ (cd : Cd) (ns : List Node) (es : List Stored) (held : cd ≡ cd_of ns es) where
  pub count_held : cd.count ≡ length ns
  unfolding cd_of
  count_held = ap (λ (x : Cd). x.count) held

  pub nodes_held : cd.nodes ≡ padded (place Unringed) limit (map place ns)
  unfolding cd_of
  nodes_held = ap (λ (x : Cd). x.nodes) held

  pub node_held : (d : Place) (i : ℕ) → i < limit → get_or cd.nodes i d ≡ place (get_or ns i Unringed)
  node_held d i h = rw nodes_held (get_or_padded (place Unringed) d limit (map place ns) i h ∙ get_or-map place ns i Unringed)

  pub pairs_held : cd.pairs ≡ triangle (between 1 es) limit
  unfolding cd_of
  pairs_held = ap (λ (x : Cd). x.pairs) held
