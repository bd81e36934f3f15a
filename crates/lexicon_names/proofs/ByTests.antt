-- Names found by tests that antt computes. For each node the next on the way to its component's lowest node, and for each component a renumbering and what takes
-- it back, are handed over; no stored edge leaves the nodes that it reaches, so these are the component. No name fits where two nodes of a component are
-- joined by a fraction that is no whole number, or where a search that tries every node at every place finds none. No limit of nodes stands here. Assumes nothing.
use Prim.Native.Nat.{ℕ, zero, suc, ◌+◌, ◌*◌, ◌≤◌, ◌<◌, zero-le}
use mathlib.Core.Bool.{Bool, true, false, not, ◌&&◌, ◌||◌, true≢false, and-eq-true_iff}
use mathlib.Core.List.{List, [], ◌∷◌, ◌++◌}
use mathlib.Core.Logic.{◌≢◌}
use mathlib.Core.Path.{◌≡◌, refl, sym, ap, ◌∙◌, subst, subst₂}
use native.Mathlib.Decide.{ℕ_discrete}
use native.Mathlib.Nat.{le_refl, le_antisymm, not-suc-le-zero}
use native.Mathlib.Omega.{arith}
use borrow.Author.Tests.{ltb-true, leb-true, le-leb, eqb-true, eqb-false, eq-eqb, ne_eqb, not-true}
use lib.Dec.{eqb, ltb, leb}
use lib.ListN.{length, get_or}
use Rattle.float.specs.Pick.{pick}
use Rattle.std.specs.Prelude.{Result, Ok, Err}
use Rattle.cd.specs.Diagrams.{Stored, is_joined}
use Rattle.cd.specs.Minimal.{Linked}
use Rattle.cd.specs.Paths.{Path, here, on}
use Rattle.cd.specs.declared.CdError.{CdError}
use Rattle.cd.specs.declared.CdError.TheVariants.{NoName}
use Rattle.cd.specs.declared.Node.{Node}
use Rattle.filing.specs.Fractions.{SameFraction}
use Rattle.filing.proofs.Numberings.{pigeonhole}
use Rattle.group_names.specs.Named.{over1, Named, Lowest, Nameless, Lists, none, passed, listed, group, listing, named, nameless}
use Rattle.group_names.specs.Names.{is_name, rank, entry}
use Rattle.group_names.specs.declared.Group.{Group}
use Rattle.group_names.specs.declared.Groups.{Groups}
use Rattle.group_names.specs.declared.Name.{Name}
use Rattle.group_names.specs.declared.Name.TheVariants.{A, B, D, E6, E7, E8, F4, H3, H4, I2}
use Rattle.group_names.proofs.Matching.{matched_le}
use Rattle.lexicon.proofs.Marks.{every, every_at, implies, implied, closed, path_stays}
use Rattle.minimal.proofs.Paths.{path_turned, path_in}
use Rattle.parse.specs.Reading.{Accepted, read}
use Rattle.tables.specs.Diagrams.{joint}
use Rattle.lexicon_names.specs.NamesText.{NamesText, told}

both : (a b : Bool) → (a && b) ≡ true → (a ≡ true) × (b ≡ true)
both a b h = (and-eq-true_iff a b).0 h

-- what a text's names are found by: of each node its component's lowest and the next on the way there; of each component's lowest node the name and, for each
-- place, the node; of each node its place
pub record Found : Type 0 where
  pub lowest : ℕ → ℕ
  pub next : ℕ → ℕ
  pub name : ℕ → Name
  pub node : ℕ → ℕ → ℕ
  pub place : ℕ → ℕ

module _ (n : ℕ) (es : List Stored) (f : Found) where
  -- ---- the tests

  -- at most k steps lead from u to c
  unfoldable pub leads_to : ℕ → ℕ → ℕ → Bool
  leads_to c zero u = eqb u c
  leads_to c (suc k) u = let r = leads_to c k (f.next u) in eqb u c || (ltb (f.next u) n && (is_joined es u (f.next u) && r))

  -- v has a place in the component of c, and is not below c
  unfoldable pub is_placed : ℕ → ℕ → Bool
  is_placed c v = leb c v && (ltb (f.place v) (rank (f.name c)) && eqb (f.node c (f.place v)) v)

  -- the node at place i leads to c, and has that place
  unfoldable pub is_inside : ℕ → ℕ → Bool
  unfolding leads_to
  is_inside c i = let u = f.node c i in ltb u n && (leads_to c n u && eqb (f.place u) i)

  unfoldable pub is_edged : ℕ → ℕ → ℕ → Bool
  is_edged c i j = let x = joint es (f.node c i) (f.node c j) in eqb i j || eqb (x.num * 1) (entry (f.name c) i j * x.den)

  unfoldable pub is_fitted : ℕ → Bool
  unfolding is_placed is_inside is_edged every
  is_fitted c =
      let m = rank (f.name c) in
      is_name (f.name c) && (is_placed c c && (closed n es (is_placed c) && (every (is_inside c) m && every (λ i. every (is_edged c i) m) m)))

  -- node k is a component's lowest, whose name fits, or is on the way to a lower one
  unfoldable pub is_told : ℕ → Bool
  unfolding is_fitted leads_to
  is_told k = let l = f.lowest k in pick (eqb l k) (is_fitted k) (ltb l k && leads_to l n k)

  unfoldable pub groups_below : ℕ → List Group
  groups_below zero = []
  groups_below (suc k) = let r = groups_below k in pick (eqb (f.lowest k) k) (r ++ (group k (f.name k) ∷ [])) r

  -- ---- what they tell

  leads_path : (c k u : ℕ) → u < n → leads_to c k u ≡ true → Path (Linked n es) u c
  unfolding leads_to
  leads_path c zero u l h = subst (Path (Linked n es) u) (eqb-true u c h) here
  leads_path c (suc k) u l h = go (eqb u c) refl h (leads_path c k (f.next u))
    where
      v : ℕ
      v = f.next u

      go : (b : Bool) → eqb u c ≡ b → (b || (ltb v n && (is_joined es u v && leads_to c k v))) ≡ true → (v < n → leads_to c k v ≡ true → Path (Linked n es) v c) → Path (Linked n es) u c
      go true e t rest = subst (Path (Linked n es) u) (eqb-true u c e) here
      go false e t rest =
          let a = both (ltb v n) (is_joined es u v && leads_to c k v) t in
          let s = both (is_joined es u v) (leads_to c k v) a.1 in
          let m = ltb-true v n a.0 in
          on (record { first = l; other = m; stored = s.0 }) (rest m s.1)

  module _ {c : ℕ} (hc : c < n) (h : is_fitted c ≡ true) where
    m : ℕ
    m = rank (f.name c)

    record Tested : Type 0 where
      valid : is_name (f.name c) ≡ true
      own : is_placed c c ≡ true
      closed_in : closed n es (is_placed c) ≡ true
      inside : every (is_inside c) m ≡ true
      edged : every (λ i. every (is_edged c i) m) m ≡ true

    tested : Tested
    unfolding is_fitted m
    tested =
        let a = both (is_name (f.name c)) _ h in
        let b = both (is_placed c c) _ a.1 in
        let d = both (closed n es (is_placed c)) _ b.1 in
        let e = both (every (is_inside c) m) _ d.1 in
        record { valid = a.0; own = b.0; closed_in = d.0; inside = e.0; edged = e.1 }

    -- a node of the component has a place, and is not below c
    placed : (v : ℕ) → Path (Linked n es) c v → (c ≤ v) × (f.place v < m) × (f.node c (f.place v) ≡ v)
    unfolding is_placed m
    placed v p =
        let a = both (leb c v) _ (path_stays (is_placed c) tested.closed_in p tested.own) in
        let b = both (ltb (f.place v) m) _ a.1 in
        (leb-true c v a.0, ltb-true (f.place v) m b.0, eqb-true (f.node c (f.place v)) v b.1)

    -- the node at a place is one of the component, and has that place
    at_place : (i : ℕ) → i < m → Path (Linked n es) c (f.node c i) × (f.place (f.node c i) ≡ i)
    unfolding is_inside m
    at_place i l =
        let u = f.node c i in
        let a = both (ltb u n) _ (every_at (is_inside c) m i tested.inside l) in
        let b = both (leads_to c n u) _ a.1 in
        (path_turned (leads_path c n u (ltb-true u n a.0) b.0), eqb-true (f.place u) i b.1)

    number : (i j : ℕ) → i < m → j < m → i ≢ j → SameFraction (joint es (f.node c i) (f.node c j)) (over1 (entry (f.name c) i j))
    unfolding is_edged m
    number i j k l ne =
        let t = every_at (is_edged c i) m j (every_at (λ i. every (is_edged c i) m) m i tested.edged k) l in
        let x = joint es (f.node c i) (f.node c j) in
        eqb-true (x.num * 1) (entry (f.name c) i j * x.den) (rw (ne_eqb i j ne) at t)

    pub fitted_named : Named n es c (f.name c)
    unfolding m
    fitted_named = record {
      valid = tested.valid;
      places = f.node c;
      fits = record {
        inside = λ i l. (at_place i l).0;
        apart = λ i j k l e. sym (at_place i k).1 ∙ ap f.place e ∙ (at_place j l).1;
        all = λ v p. let a = placed v p in (f.place v, a.1, a.2);
        edges = number;
      };
    }

    pub fitted_lowest : Lowest n es c
    fitted_lowest v p = (placed v p).0

  -- the components below k
  pub told_lists : (k : ℕ) → k ≤ n → every is_told k ≡ true → Lists n es k (groups_below k)
  unfolding every groups_below is_told
  told_lists zero l h = none
  told_lists (suc k) l h = let t = both (is_told k) (every is_told k) h in go (eqb c k) refl t.0 (told_lists k (omega arith) t.1)
    where
      c : ℕ
      c = f.lowest k

      go : (b : Bool) → eqb c k ≡ b → pick b (is_fitted k) (ltb c k && leads_to c n k) ≡ true → Lists n es k (groups_below k)
          → Lists n es (suc k) (pick b (groups_below k ++ (group k (f.name k) ∷ [])) (groups_below k))
      go true e t w = listed w (fitted_lowest l t) (fitted_named l t)
      go false e t w =
          let a = both (ltb c k) _ t in
          passed w (λ low. let z = low c (leads_path c n k l a.1) in omega (arith, z, ltb-true c k a.0))

-- where a name fits, any two nodes are joined by a whole number
pub named_whole : {n : ℕ} {es : List Stored} {c u v : ℕ} {x : Name} → Named n es c x → Path (Linked n es) c u → Path (Linked n es) c v → u ≢ v → (m : ℕ) × SameFraction (joint es u v) (over1 m)
named_whole {es = es} {x = x} d p q ne =
    let (i, hi, ei) = d.fits.all _ p in
    let (j, hj, ej) = d.fits.all _ q in
    let other : i ≢ j = λ e. ne (sym ei ∙ ap d.places e ∙ ej) in
    (entry x i j, subst₂ (λ a b. SameFraction (joint es a b) (over1 (entry x i j))) ei ej (d.fits.edges i j hi hj other))

-- ---- no name at all

-- f holds of some number below n
unfoldable pub some : (ℕ → Bool) → ℕ → Bool
some f zero = false
some f (suc n) = let r = some f n in f n || r

or_right : (a b : Bool) → b ≡ true → (a || b) ≡ true
or_right true b h = refl
or_right false b h = h

some_at : (f : ℕ → Bool) (n i : ℕ) → i < n → f i ≡ true → some f n ≡ true
unfolding some
some_at f zero i l h = absurd (not-suc-le-zero l)
some_at f (suc n) i l h =
    elim (ℕ_discrete i n) [
      | yes e ↦ rw (← e, h)
      | no ne ↦ or_right (f n) (some f n) (some_at f n i (omega arith) h)
    ]

-- the first k of a renumbering, the last one first
firsts : (ℕ → ℕ) → ℕ → List ℕ
firsts p zero = []
firsts p (suc k) = p k ∷ firsts p k

module _ (n : ℕ) (es : List Stored) where
  -- v at place k agrees with nodes at the places below j, the last one first
  unfoldable pub is_behind : Name → ℕ → ℕ → ℕ → List ℕ → Bool
  is_behind x k v zero us = true
  is_behind x k v (suc j) [] = true
  is_behind x k v (suc j) (u ∷ us) =
      let r = is_behind x k v j us in
      let z = joint es u v in
      not (eqb u v) && (eqb (z.num * 1) (entry x j k * z.den) && r)

  -- m more places can be filled behind the k that have nodes
  unfoldable pub goes_on : Name → ℕ → ℕ → List ℕ → Bool
  unfolding is_behind some
  goes_on x zero k us = true
  goes_on x (suc m) k us = some (λ v. let t = goes_on x m (suc k) (v ∷ us) in is_behind x k v k us && t) n

  -- x has n nodes, and they can't be placed
  unfoldable pub is_unfit : Name → Bool
  unfolding goes_on
  is_unfit x = implies (eqb (rank x) n) (not (goes_on x n 0 []))

  module _ {c : ℕ} (hc : c < n) {x : Name} (d : Named n es c x) where
    abbrev f : ℕ → ℕ
    f = d.places

    below : (i : ℕ) → i < rank x → f i < n
    below i l = path_in hc (d.fits.inside i l)

    behind : (k j : ℕ) → k < rank x → j ≤ k → is_behind x k (f k) j (firsts f j) ≡ true
    unfolding is_behind firsts
    behind k zero l h = refl
    behind k (suc j) l h =
        let low : j < rank x = omega arith in
        let ne : j ≢ k = λ e. omega arith in
        rw (ne_eqb (f j) (f k) (λ e. ne (d.fits.apart j k low l e)), eq-eqb _ _ (d.fits.edges j k low l ne)) (behind k j l (omega arith))

    -- what is found by a renumbering is found by the search
    goes_on_lem : (m k : ℕ) → m + k ≡ rank x → goes_on x m k (firsts f k) ≡ true
    unfolding goes_on firsts
    goes_on_lem zero k e = refl
    goes_on_lem (suc m) k e =
        some_at _ n (f k) (below k (omega arith)) ((and-eq-true_iff (is_behind x k (f k) k (firsts f k)) _).1 (behind k k (omega arith) (le_refl k), goes_on_lem m (suc k) (omega arith)))

    -- of one component of n nodes it has n
    size : ((v : ℕ) → v < n → Path (Linked n es) c v) → rank x ≡ n
    size whole =
        le_antisymm (pigeonhole (rank x) n f (record { within = below; apart = d.fits.apart }))
        (matched_le (λ v i. f i ≡ v) (λ v l. d.fits.all v (whole v l)) (λ u v i l m p q. sym p ∙ q))

    not_unfit : ((v : ℕ) → v < n → Path (Linked n es) c v) → is_unfit x ≡ true → ⊥
    unfolding is_unfit firsts
    not_unfit whole h =
        let e = size whole in
        let t : goes_on x n 0 [] ≡ true = subst (λ m. goes_on x m 0 [] ≡ true) e (goes_on_lem (rank x) 0 (omega arith)) in
        true≢false (sym t ∙ not-true _ (implied (eqb (rank x) n) _ h (eq-eqb (rank x) n e)))

  -- the names of n nodes, but for I2
  abbrev pub names_of : List Name
  names_of = A n ∷ B n ∷ D n ∷ E6 ∷ E7 ∷ E8 ∷ F4 ∷ H3 ∷ H4 ∷ []

  abbrev pub is_unfit_at : ℕ → Bool
  is_unfit_at k = is_unfit (get_or names_of k F4)

  unfit : 2 < n → every is_unfit_at 9 ≡ true → (x : Name) → rank x ≡ n → is_unfit x ≡ true
  unfolding rank
  unfit three h (A k) e = subst (λ m. is_unfit (A m) ≡ true) (sym e) (every_at is_unfit_at 9 0 h (omega arith))
  unfit three h (B k) e = subst (λ m. is_unfit (B m) ≡ true) (sym e) (every_at is_unfit_at 9 1 h (omega arith))
  unfit three h (D k) e = subst (λ m. is_unfit (D m) ≡ true) (sym e) (every_at is_unfit_at 9 2 h (omega arith))
  unfit three h E6 e = every_at is_unfit_at 9 3 h (omega arith)
  unfit three h E7 e = every_at is_unfit_at 9 4 h (omega arith)
  unfit three h E8 e = every_at is_unfit_at 9 5 h (omega arith)
  unfit three h F4 e = every_at is_unfit_at 9 6 h (omega arith)
  unfit three h H3 e = every_at is_unfit_at 9 7 h (omega arith)
  unfit three h H4 e = every_at is_unfit_at 9 8 h (omega arith)
  unfit three h (I2 p) e = absurd (omega arith)

  -- where all nodes are one component, and none of these names can be placed
  none_fits : {c : ℕ} → c < n → 2 < n → ((v : ℕ) → v < n → Path (Linked n es) c v) → every is_unfit_at 9 ≡ true → Nameless n es c
  none_fits hc three whole h x d = not_unfit hc d whole (unfit three h x (size hc d whole))

-- ---- of a text

module _ {wish : Bool} {text : List ℕ} {ns : List Node} {es : List Stored} {r : Result Groups CdError} (f : Found) (h : read wish text ≡ Accepted ns es) where
  pub names_by : every (is_told (length ns) es f) (length ns) ≡ true → r ≡ Ok (listing (groups_below (length ns) es f (length ns))) → NamesText wish text r
  names_by t e = told h (named (told_lists (length ns) es f (length ns) (le_refl (length ns)) t) e)

  -- the components below c have names; no stored edge leads from c or a greater node to a lower one; and what joins c to u is no whole number
  pub nameless_by : (c u : ℕ) → ltb c (length ns) ≡ true → ltb u (length ns) ≡ true → every (is_told (length ns) es f) c ≡ true → closed (length ns) es (leb c) ≡ true
      → is_joined es c u ≡ true → eqb c u ≡ false → ((m : ℕ) → SameFraction (joint es c u) (over1 m) → ⊥) → r ≡ Err (NoName c) → NamesText wish text r
  nameless_by c u bc bu t cl s ne not e =
      let hc = ltb-true c (length ns) bc in
      let hu = ltb-true u (length ns) bu in
      let low : Lowest (length ns) es c = λ v p. leb-true c v (path_stays (leb c) cl p (le-leb c c (le_refl c))) in
      let step : Path (Linked (length ns) es) c u = on (record { first = hc; other = hu; stored = s }) here in
      told h (nameless hc (told_lists (length ns) es f c (omega arith) t) low (λ x d. let (m, w) = named_whole d here step (eqb-false c u ne) in not m w) e)

  -- all nodes are one component, and no name of as many nodes can be placed there
  pub nameless_by_search : ltb 2 (length ns) ≡ true → every (leads_to (length ns) es f 0 (length ns)) (length ns) ≡ true → every (is_unfit_at (length ns) es) 9 ≡ true → r ≡ Err (NoName 0) → NamesText wish text r
  nameless_by_search b t u e =
      let n = length ns in
      let three = ltb-true 2 n b in
      let hc : 0 < length ns = omega arith in
      let whole : (v : ℕ) → v < length ns → Path (Linked (length ns) es) 0 v =
      λ v l. path_turned (leads_path (length ns) es f 0 (length ns) v l (every_at (leads_to (length ns) es f 0 (length ns)) (length ns) v t l)) in
      told h (nameless hc none (λ v p. zero-le) (none_fits (length ns) es hc three whole u) e)
