-- No component gets two names: two renumberings of one component onto two families give one from family to family, which keeps the numbers, so the number that is
-- not 3, and the patterns of Patterns.antt. So the shapes are the same, and the shape tells the name. Assumes nothing.
use mathlib.Core.Bool.{true}
use mathlib.Core.List.{List}
use mathlib.Core.Logic.{◌≢◌, ◌⊎◌, inl, inr, ⊎_elim}
use mathlib.Core.Path.{◌≡◌, sym, ap, ◌∙◌}
use Prim.Native.Nat.{ℕ, zero, ◌≤◌, ◌<◌}
use native.Mathlib.Decide.{dec_le}
use native.Mathlib.Nat.{le_antisymm, eq_of_mul-eq-mul_left}
use native.Mathlib.Omega.{arith}
use borrow.Author.Tests.{eq-eqb}
use Rattle.float.specs.Pick.{pick}
use Rattle.cd.specs.Diagrams.{Stored}
use Rattle.filing.specs.Fractions.{Fraction, SameFraction}
use Rattle.filing.specs.Numberings.{Numbering}
use Rattle.filing.proofs.Numberings.{differ}
use Rattle.minimal.proofs.Paths.{path_in}
use Rattle.tables.specs.Diagrams.{joint}
use Rattle.group_names.specs.Named.{over1, Named}
use Rattle.group_names.specs.Names.{is_name, rank, entry}
use Rattle.group_names.specs.declared.Name.{Name}
use Rattle.group_names.proofs.Matching.{choose, matched_le}
use Rattle.group_names.proofs.Neighbours.{heavy, first_number, later_number, numbers}
use Rattle.group_names.proofs.Shapes.{IsShape, chained, forked, branched, centred, branch, start, label, name_shape, same_name}
use Rattle.group_names.proofs.Patterns.{Alike, alike_back, branching_kept, fork_kept, heavy_end_kept, chain_unbranched, forked_branching, branched_branching, forked_fork, branched_unforked, chained_heavy_end, centred_no_heavy_end}

-- ---- alike shapes are the same

-- an edge that has the label
record Labelled (x : Name) : Type 0 where
  pub i : ℕ
  pub j : ℕ
  pub low : i < rank x
  pub high : j < rank x
  pub other : i ≢ j
  pub is : entry x i j ≡ label x

module _ (x : Name) (valid : is_name x ≡ true) where
  first_labelled : start x ≡ 0 → 1 ≤ branch x → branch x < rank x → Labelled x
  first_labelled z l h = record {
    i = 0;
    j = branch x;
    low = omega arith;
    high = h;
    other = λ e. omega arith;
    is = first_number x valid ∙ ap (λ t. pick t (label x) 3) (eq-eqb 0 (start x) (sym z));
  }

  labelled : 2 ≤ rank x → Labelled x
  labelled h = go (name_shape x valid)
    where
      go : IsShape (rank x) (branch x) (start x) (label x) → Labelled x
      go (chained _ b s _ _) = first_labelled s (omega arith) (omega arith)
      go (forked n b s _) = first_labelled s (omega arith) (omega arith)
      go (branched n b s _) = first_labelled s (omega arith) (omega arith)
      go (centred n b s _) = record {
        i = 1;
        j = 2;
        low = omega arith;
        high = omega arith;
        other = λ e. omega arith;
        is = later_number x valid 1 (omega arith) ∙ ap (λ t. pick t (label x) 3) (eq-eqb 1 (start x) (sym s));
      }

  -- of one node the label is 3
  single : rank x ≤ 1 → label x ≡ 3
  single h = go (name_shape x valid)
    where
      go : IsShape (rank x) (branch x) (start x) (label x) → label x ≡ 3
      go (chained n _ _ _ l) = l (omega arith)
      go (forked n _ _ _) = absurd (omega arith)
      go (branched n _ _ _) = absurd (omega arith)
      go (centred n _ _ _) = absurd (omega arith)

  -- which shapes branch, and where
  branches : (branch x ≡ 1) ⊎ (((branch x ≡ 2) × (4 ≤ rank x)) ⊎ ((branch x ≡ 3) × (6 ≤ rank x)))
  branches = go (name_shape x valid)
    where
      go : IsShape (rank x) (branch x) (start x) (label x) → (branch x ≡ 1) ⊎ (((branch x ≡ 2) × (4 ≤ rank x)) ⊎ ((branch x ≡ 3) × (6 ≤ rank x)))
      go (chained _ b _ _ _) = inl b
      go (forked n b _ _) = inr (inl (b, n))
      go (branched n b _ _) = inr (inr (b, n))
      go (centred _ b _ _) = inl b

  -- F4 is the one whose label stands at its second edge
  starts : (start x ≡ 0) ⊎ ((rank x ≡ 4) × (branch x ≡ 1) × (start x ≡ 1) × (label x ≡ 4))
  starts = go (name_shape x valid)
    where
      go : IsShape (rank x) (branch x) (start x) (label x) → (start x ≡ 0) ⊎ ((rank x ≡ 4) × (branch x ≡ 1) × (start x ≡ 1) × (label x ≡ 4))
      go (chained _ _ s _ _) = inl s
      go (forked _ _ s _) = inl s
      go (branched _ _ s _) = inl s
      go (centred n b s l) = inr (n, b, s, l)

-- the label is 3 or the other's
light_or_same : (x y : Name) {g : ℕ → ℕ} → is_name x ≡ true → is_name y ≡ true → Alike x y g → (label x ≡ 3) ⊎ (label x ≡ label y)
light_or_same x y {g} vx vy a = go (dec_le (rank x) 1)
  where
    go : Dec (rank x ≤ 1) → (label x ≡ 3) ⊎ (label x ≡ label y)
    go (yes h) = inl (single x vx h)
    go (no h) =
        let w = labelled x vx (omega arith) in
        let e : entry y (g w.i) (g w.j) ≡ label x = sym (a.same w.i w.j w.low w.high w.other) ∙ w.is in
        ⊎_elim (λ z. inl (sym e ∙ z)) (λ z. inr (sym e ∙ z))
        (numbers y vy (g w.i) (g w.j) (differ a.numbering w.low w.high w.other) (λ z. omega (arith, heavy x vx, e, z)))

label_same : (x y : Name) {g : ℕ → ℕ} → is_name x ≡ true → is_name y ≡ true → Alike x y g → label x ≡ label y
label_same x y vx vy a =
    ⊎_elim (λ p. ⊎_elim (λ q. p ∙ sym q) (λ q. sym q) (light_or_same y x vy vx (alike_back a))) (λ p. p) (light_or_same x y vx vy a)

branch_same : (x y : Name) {g : ℕ → ℕ} → is_name x ≡ true → is_name y ≡ true → Alike x y g → branch x ≡ branch y
branch_same x y vx vy a = go (branches x vx) (branches y vy)
  where
    go : (branch x ≡ 1) ⊎ (((branch x ≡ 2) × (4 ≤ rank x)) ⊎ ((branch x ≡ 3) × (6 ≤ rank x)))
        → (branch y ≡ 1) ⊎ (((branch y ≡ 2) × (4 ≤ rank y)) ⊎ ((branch y ≡ 3) × (6 ≤ rank y))) → branch x ≡ branch y
    go (inl p) (inl q) = p ∙ sym q
    go (inl p) (inr (inl q)) = absurd (chain_unbranched x vx p (branching_kept (alike_back a) (forked_branching y vy q.0 q.1)))
    go (inl p) (inr (inr q)) = absurd (chain_unbranched x vx p (branching_kept (alike_back a) (branched_branching y vy q.0 q.1)))
    go (inr (inl p)) (inl q) = absurd (chain_unbranched y vy q (branching_kept a (forked_branching x vx p.0 p.1)))
    go (inr (inl p)) (inr (inl q)) = p.0 ∙ sym q.0
    go (inr (inl p)) (inr (inr q)) = absurd (branched_unforked y vy q.0 q.1 (fork_kept a (forked_fork x vx p.0 p.1)))
    go (inr (inr p)) (inl q) = absurd (chain_unbranched y vy q (branching_kept a (branched_branching x vx p.0 p.1)))
    go (inr (inr p)) (inr (inl q)) = absurd (branched_unforked x vx p.0 p.1 (fork_kept (alike_back a) (forked_fork y vy q.0 q.1)))
    go (inr (inr p)) (inr (inr q)) = p.0 ∙ sym q.0

-- what begins with its label is not F4
not_centred : (x y : Name) {g : ℕ → ℕ} → is_name x ≡ true → is_name y ≡ true → Alike x y g → start x ≡ 0 → (rank y ≡ 4) × (branch y ≡ 1) × (start y ≡ 1) × (label y ≡ 4) → ⊥
not_centred x y vx vy a s (n, b, t, l) =
    let h : label x ≢ 3 = λ e. omega (arith, label_same x y vx vy a) in
    centred_no_heavy_end y vy b t n (heavy_end_kept a (chained_heavy_end x vx (branch_same x y vx vy a ∙ b) s (omega (arith, a.size)) h))

start_same : (x y : Name) {g : ℕ → ℕ} → is_name x ≡ true → is_name y ≡ true → Alike x y g → start x ≡ start y
start_same x y vx vy a =
    ⊎_elim
    (λ p. ⊎_elim (λ q. p ∙ sym q) (λ q. absurd (not_centred x y vx vy a p q)) (starts y vy))
    (λ p. ⊎_elim (λ q. absurd (not_centred y x vy vx (alike_back a) q p)) (λ q. p.2 ∙ sym q.2) (starts y vy))
    (starts x vx)

alike_same : (x y : Name) {g : ℕ → ℕ} → is_name x ≡ true → is_name y ≡ true → Alike x y g → x ≡ y
alike_same x y vx vy a = same_name vx vy a.size (branch_same x y vx vy a) (start_same x y vx vy a) (label_same x y vx vy a)

-- ---- one component

-- a fraction that is the whole numbers a and b
same_whole : (z : Fraction) (a b : ℕ) → zero < z.den → SameFraction z (over1 a) → SameFraction z (over1 b) → a ≡ b
same_whole z a b h p q = eq_of_mul-eq-mul_left z.den h a b (omega arith)

-- NO COMPONENT GETS TWO NAMES
pub one_name : (n : ℕ) (es : List Stored) (c : ℕ) → c < n → ((u v : ℕ) → u < n → v < n → u ≢ v → zero < (joint es u v).den) → {x y : Name} → Named n es c x → Named n es c y → x ≡ y
one_name n es c hc positive {x} {y} p q = alike_same x y p.valid q.valid alike
  where
    f : ℕ → ℕ
    f = p.places

    h : ℕ → ℕ
    h = q.places

    chosen : (g : ℕ → ℕ) × ((i : ℕ) → i < rank x → (g i < rank y) × (h (g i) ≡ f i))
    chosen = choose (λ i j. h j ≡ f i) (λ i l. q.fits.all (f i) (p.fits.inside i l))

    g : ℕ → ℕ
    g = chosen.0

    size : rank x ≡ rank y
    size =
        le_antisymm
        (matched_le (λ i j. h j ≡ f i) (λ i l. q.fits.all (f i) (p.fits.inside i l)) (λ i k j l m r s. p.fits.apart i k l m (sym r ∙ s)))
        (matched_le (λ i j. f j ≡ h i) (λ i l. p.fits.all (h i) (q.fits.inside i l)) (λ i k j l m r s. q.fits.apart i k l m (sym r ∙ s)))

    numbering : Numbering (rank x) g
    numbering = record {
      within = λ i l. omega (arith, size, (chosen.1 i l).0);
      apart = λ i j l m e. p.fits.apart i j l m (sym (chosen.1 i l).1 ∙ ap h e ∙ (chosen.1 j m).1);
    }

    below : (i : ℕ) → i < rank x → f i < n
    below i l = path_in hc (p.fits.inside i l)

    same : (i j : ℕ) → i < rank x → j < rank x → i ≢ j → entry x i j ≡ entry y (g i) (g j)
    same i j l m ne =
        let gi = chosen.1 i l in
        let gj = chosen.1 j m in
        let there = q.fits.edges (g i) (g j) gi.0 gj.0 (differ numbering l m ne) in
        let here : SameFraction (joint es (f i) (f j)) (over1 (entry y (g i) (g j))) = rw (gi.1, gj.1) at there in
        same_whole (joint es (f i) (f j)) (entry x i j) (entry y (g i) (g j))
        (positive (f i) (f j) (below i l) (below j m) (λ e. ne (p.fits.apart i j l m e)))
        (p.fits.edges i j l m ne) here

    alike : Alike x y g
    alike = record { size = size; numbering = numbering; same = same }
