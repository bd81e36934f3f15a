-- What a renumbering from family to family keeps: a node with three neighbours, which only D and E have; two ends beside it, which only D has; and an end joined by
-- a number other than 3, which F4 lacks. Assumes nothing.
use mathlib.Core.Bool.{true, false}
use mathlib.Core.Logic.{◌≢◌}
use mathlib.Core.Path.{◌≡◌, refl, sym, ap, ap₂, ◌∙◌, subst}
use Prim.Native.Nat.{ℕ, ◌+◌, ◌≤◌, ◌<◌}
use native.Mathlib.Decide.{ℕ_discrete, dec_lt}
use native.Mathlib.Omega.{arith}
use borrow.Author.Tests.{eq-eqb, ne_eqb}
use lib.Dec.{eqb}
use Rattle.float.specs.Pick.{pick}
use Rattle.filing.specs.Numberings.{Numbering}
use Rattle.filing.proofs.Numberings.{onto, differ, inverse, inverse_right, inverse_numbering}
use Rattle.group_names.specs.Names.{is_name, rank, entry}
use Rattle.group_names.specs.declared.Name.{Name}
use Rattle.group_names.proofs.Entries.{entry_symmetric}
use Rattle.group_names.proofs.Neighbours.{Adjacent, hang, hung, beside, joined_adjacent, adjacent_joined, first_number, later_number}
use Rattle.group_names.proofs.Shapes.{branch, start, label}

-- ---- from family to family

-- g takes the nodes of x's diagram to those of y's and keeps the numbers
pub record Alike (x y : Name) (g : ℕ → ℕ) : Type 0 where
  pub size : rank x ≡ rank y
  pub numbering : Numbering (rank x) g
  pub same : (i j : ℕ) → i < rank x → j < rank x → i ≢ j → entry x i j ≡ entry y (g i) (g j)

pub alike_back : {x y : Name} {g : ℕ → ℕ} → Alike x y g → Alike y x (inverse (rank x) g)
alike_back {x} {y} {g} a = record { size = sym a.size; numbering = subst (λ m. Numbering m (inverse (rank x) g)) a.size (inverse_numbering a.numbering); same = same }
  where
    back : ℕ → ℕ
    back = inverse (rank x) g

    same : (i j : ℕ) → i < rank y → j < rank y → i ≢ j → entry y i j ≡ entry x (back i) (back j)
    same i j h k ne =
        let hi : i < rank x = rw (← a.size) at h in
        let hj : j < rank x = rw (← a.size) at k in
        let nb = inverse_numbering a.numbering in
        sym (ap₂ (entry y) (inverse_right a.numbering i hi) (inverse_right a.numbering j hj))
        ∙ sym (a.same (back i) (back j) (nb.within i hi) (nb.within j hj) (differ nb hi hj ne))

-- ---- patterns that it keeps

-- two nodes of x's diagram that are joined
pub record Near (x : Name) (c p : ℕ) : Type 0 where
  pub low : c < rank x
  pub inside : p < rank x
  pub other : c ≢ p
  pub joined : entry x c p ≢ 2

-- p is joined to c alone
abbrev pub End : Name → ℕ → ℕ → Type 0
End x c p = (v : ℕ) → Near x p v → v ≡ c

-- a node with three neighbours
pub record Branching (x : Name) : Type 0 where
  pub c : ℕ
  pub p : ℕ
  pub q : ℕ
  pub r : ℕ
  pub near_p : Near x c p
  pub near_q : Near x c q
  pub near_r : Near x c r
  pub p_q : p ≢ q
  pub p_r : p ≢ r
  pub q_r : q ≢ r

-- of which two are ends
pub record Fork (x : Name) : Type 0 where
  pub three : Branching x
  pub end_p : End x three.c three.p
  pub end_q : End x three.c three.q

-- an end joined by a number other than 3
pub record HeavyEnd (x : Name) : Type 0 where
  pub c : ℕ
  pub p : ℕ
  pub near : Near x c p
  pub number : entry x c p ≢ 3
  pub end : End x c p

module _ {x y : Name} {g : ℕ → ℕ} (a : Alike x y g) where
  near_kept : {c p : ℕ} → Near x c p → Near y (g c) (g p)
  near_kept {c} {p} h = record {
    low = rw a.size at (a.numbering.within c h.low);
    inside = rw a.size at (a.numbering.within p h.inside);
    other = differ a.numbering h.low h.inside h.other;
    joined = λ e. h.joined (a.same c p h.low h.inside h.other ∙ e);
  }

  end_kept : {c p : ℕ} → p < rank x → End x c p → End y (g c) (g p)
  end_kept {c} {p} hp e v h =
      let (u, hu, s) = onto a.numbering v (rw (← a.size) at h.inside) in
      let ne : p ≢ u = λ z. h.other (ap g z ∙ s) in
      let near : Near x p u = record { low = hp; inside = hu; other = ne; joined = λ z. h.joined (ap (entry y (g p)) (sym s) ∙ sym (a.same p u hp hu ne) ∙ z) } in
      sym s ∙ ap g (e u near)

  pub branching_kept : Branching x → Branching y
  branching_kept w = record {
    c = g w.c;
    p = g w.p;
    q = g w.q;
    r = g w.r;
    near_p = near_kept w.near_p;
    near_q = near_kept w.near_q;
    near_r = near_kept w.near_r;
    p_q = differ a.numbering w.near_p.inside w.near_q.inside w.p_q;
    p_r = differ a.numbering w.near_p.inside w.near_r.inside w.p_r;
    q_r = differ a.numbering w.near_q.inside w.near_r.inside w.q_r;
  }

  pub fork_kept : Fork x → Fork y
  unfolding branching_kept
  fork_kept w = record { three = branching_kept w.three; end_p = end_kept w.three.near_p.inside w.end_p; end_q = end_kept w.three.near_q.inside w.end_q }

  pub heavy_end_kept : HeavyEnd x → HeavyEnd y
  heavy_end_kept w = record {
    c = g w.c;
    p = g w.p;
    near = near_kept w.near;
    number = λ e. w.number (a.same w.c w.p w.near.low w.near.inside w.near.other ∙ e);
    end = end_kept w.near.inside w.end;
  }

-- ---- which shapes have them

-- three nodes that differ are not all next to a fourth
crowded : {c p q r : ℕ} → c ≢ p → c ≢ q → c ≢ r → p ≢ q → p ≢ r → q ≢ r
    → (c ≤ p + 1) × (p ≤ c + 1) → (c ≤ q + 1) × (q ≤ c + 1) → (c ≤ r + 1) × (r ≤ c + 1) → ⊥
crowded cp cq cr pq pr qr hp hq hr = omega arith

module _ (x : Name) (valid : is_name x ≡ true) where
  near_by : (i j : ℕ) → i < rank x → j < rank x → i ≢ j → Adjacent (branch x) i j → Near x i j
  near_by i j h k ne a = record { low = h; inside = k; other = ne; joined = adjacent_joined x valid i j a }

  adjacent : {i j : ℕ} → Near x i j → Adjacent (branch x) i j
  adjacent {i} {j} h = joined_adjacent x valid i j h.other h.joined

  -- in a chain, neighbours are next to each other
  chain_near : {i j : ℕ} → branch x ≡ 1 → Near x i j → (i ≤ j + 1) × (j ≤ i + 1)
  chain_near {i} {j} e h = go (adjacent h)
    where
      go : Adjacent (branch x) i j → (i ≤ j + 1) × (j ≤ i + 1)
      go (hang p q) = (omega arith, omega arith)
      go (hung p q) = (omega arith, omega arith)
      go (beside p q a c n) = (a, c)

  pub chain_unbranched : branch x ≡ 1 → Branching x → ⊥
  chain_unbranched e w =
      crowded w.near_p.other w.near_q.other w.near_r.other w.p_q w.p_r w.q_r (chain_near e w.near_p) (chain_near e w.near_q) (chain_near e w.near_r)

  pub forked_branching : branch x ≡ 2 → 4 ≤ rank x → Branching x
  forked_branching e h = record {
    c = 2;
    p = 0;
    q = 1;
    r = 3;
    near_p = near_by 2 0 (omega arith) (omega arith) (λ z. omega arith) (hung refl (sym e));
    near_q = near_by 2 1 (omega arith) (omega arith) (λ z. omega arith) (beside (omega arith) (omega arith) (omega arith) (omega arith) (λ z. omega arith));
    near_r = near_by 2 3 (omega arith) (omega arith) (λ z. omega arith) (beside (omega arith) (omega arith) (omega arith) (omega arith) (λ z. omega arith));
    p_q = λ z. omega arith;
    p_r = λ z. omega arith;
    q_r = λ z. omega arith;
  }

  pub branched_branching : branch x ≡ 3 → 6 ≤ rank x → Branching x
  branched_branching e h = record {
    c = 3;
    p = 0;
    q = 2;
    r = 4;
    near_p = near_by 3 0 (omega arith) (omega arith) (λ z. omega arith) (hung refl (sym e));
    near_q = near_by 3 2 (omega arith) (omega arith) (λ z. omega arith) (beside (omega arith) (omega arith) (omega arith) (omega arith) (λ z. omega arith));
    near_r = near_by 3 4 (omega arith) (omega arith) (λ z. omega arith) (beside (omega arith) (omega arith) (omega arith) (omega arith) (λ z. omega arith));
    p_q = λ z. omega arith;
    p_r = λ z. omega arith;
    q_r = λ z. omega arith;
  }

  -- where node 0 hangs it is an end
  first_end : 1 ≤ branch x → End x (branch x) 0
  first_end l v h = go (adjacent h)
    where
      go : Adjacent (branch x) 0 v → v ≡ branch x
      go (hang p q) = q
      go (hung p q) = absurd (omega arith)
      go (beside p q a c n) = absurd (omega arith)

  pub forked_fork : branch x ≡ 2 → 4 ≤ rank x → Fork x
  unfolding forked_branching
  forked_fork e h = record { three = forked_branching e h; end_p = λ v k. first_end (omega arith) v k ∙ e; end_q = λ v k. go v (adjacent k) }
    where
      go : (v : ℕ) → Adjacent (branch x) 1 v → v ≡ 2
      go v (hang p q) = absurd (omega arith)
      go v (hung p q) = absurd (omega arith)
      go v (beside p q a c n) = omega arith

  -- node 3 of a branched one has one end beside it, node 0
  branched_end : branch x ≡ 3 → 6 ≤ rank x → {c p : ℕ} → c ≡ 3 → 1 ≤ p → Near x c p → End x c p → ⊥
  branched_end e h {c} {p} three l near end = go (adjacent near)
    where
      two : p ≡ 2 → ⊥
      two z =
          let k : Near x p 1 = near_by p 1 (omega arith) (omega arith) (λ w. omega arith) (beside (omega arith) (omega arith) (omega arith) (omega arith) (λ w. omega arith)) in
          let w = end 1 k in omega arith

      four : p ≡ 4 → ⊥
      four z =
          let k : Near x p 5 = near_by p 5 (omega arith) (omega arith) (λ w. omega arith) (beside (omega arith) (omega arith) (omega arith) (omega arith) (λ w. omega arith)) in
          let w = end 5 k in omega arith

      go : Adjacent (branch x) c p → ⊥
      go (hang u v) = omega arith
      go (hung u v) = omega arith
      go (beside _ _ a d n) = elim (ℕ_discrete p 2) [ yes z ↦ two z | no z ↦ four (omega arith) ]

  -- a node with three neighbours is the one at which node 0 hangs
  centre : 1 ≤ branch x → (w : Branching x) → w.c ≡ branch x
  centre l w = elim (ℕ_discrete w.c (branch x)) [ yes e ↦ e | no e ↦ absurd (away e (ℕ_discrete w.c 0)) ]
    where
      -- node 0 has one neighbour
      only : w.c ≡ 0 → {p : ℕ} → Near x w.c p → p ≡ branch x
      only z {p} h = go (adjacent h)
        where
          go : Adjacent (branch x) w.c p → p ≡ branch x
          go (hang _ q) = q
          go (hung _ q) = absurd (omega arith)
          go (beside q _ _ _ _) = absurd (omega arith)

      -- any other but the branch has two at most
      around : w.c ≢ branch x → w.c ≢ 0 → {p : ℕ} → Near x w.c p → (w.c ≤ p + 1) × (p ≤ w.c + 1)
      around e z {p} h = go (adjacent h)
        where
          go : Adjacent (branch x) w.c p → (w.c ≤ p + 1) × (p ≤ w.c + 1)
          go (hang q _) = absurd (z q)
          go (hung _ q) = absurd (e q)
          go (beside _ _ a d _) = (a, d)

      away : w.c ≢ branch x → Dec (w.c ≡ 0) → ⊥
      away e (yes z) = w.p_q (only z w.near_p ∙ sym (only z w.near_q))
      away e (no z) =
          crowded w.near_p.other w.near_q.other w.near_r.other w.p_q w.p_r w.q_r (around e z w.near_p) (around e z w.near_q) (around e z w.near_r)

  pub branched_unforked : branch x ≡ 3 → 6 ≤ rank x → Fork x → ⊥
  branched_unforked e h w =
      let t = w.three in
      let c : t.c ≡ 3 = centre (omega arith) t ∙ e in
      elim (ℕ_discrete t.p 0) [
        | yes z ↦ branched_end e h c (omega (arith, t.p_q)) t.near_q w.end_q
        | no z ↦ branched_end e h c (omega arith) t.near_p w.end_p
      ]

  -- a chain that begins with another number than 3, and F4
  pub chained_heavy_end : branch x ≡ 1 → start x ≡ 0 → 2 ≤ rank x → label x ≢ 3 → HeavyEnd x
  chained_heavy_end e z h l = record {
    c = 1;
    p = 0;
    near = near_by 1 0 (omega arith) (omega arith) (λ w. omega arith) (hung refl (sym e));
    number = λ w. l (sym number ∙ ap (entry x 0) e ∙ entry_symmetric x 0 1 ∙ w);
    end = λ v k. first_end (omega arith) v k ∙ e;
  }
    where
      number : entry x 0 (branch x) ≡ label x
      number = first_number x valid ∙ ap (λ t. pick t (label x) 3) (eq-eqb 0 (start x) (sym z))

  pub centred_no_heavy_end : branch x ≡ 1 → start x ≡ 1 → rank x ≡ 4 → HeavyEnd x → ⊥
  centred_no_heavy_end e z h w = go (adjacent w.near)
    where
      not_first : eqb 0 (start x) ≡ false
      not_first = ne_eqb 0 (start x) (λ q. omega arith)

      three_first : entry x 0 (branch x) ≡ 3
      three_first = first_number x valid ∙ ap (λ t. pick t (label x) 3) not_first

      -- an edge from i to i + 1 other than 3 is that from 1
      from_one : (i : ℕ) → 1 ≤ i → entry x i (i + 1) ≢ 3 → i ≡ 1
      from_one i l n =
          elim (ℕ_discrete i 1) [
            | yes q ↦ q
            | no q ↦ absurd (n (later_number x valid i l ∙ ap (λ t. pick t (label x) 3) (ne_eqb i (start x) (λ r. q (r ∙ z)))))
          ]

      one_two : w.p ≡ 1 → w.c ≡ 2 → ⊥
      one_two p c =
          let k : Near x w.p 0 = near_by w.p 0 (omega arith) (omega arith) (λ r. omega arith) (hung refl (p ∙ sym e)) in
          let r = w.end 0 k in omega arith

      two_one : w.p ≡ 2 → w.c ≡ 1 → ⊥
      two_one p c =
          let k : Near x w.p 3 = near_by w.p 3 (omega arith) (omega arith) (λ r. omega arith) (beside (omega arith) (omega arith) (omega arith) (omega arith) (λ r. omega arith)) in
          let r = w.end 3 k in omega arith

      go : Adjacent (branch x) w.c w.p → ⊥
      go (hang q r) = w.number (ap₂ (entry x) q r ∙ three_first)
      go (hung q r) = w.number (entry_symmetric x w.c w.p ∙ ap₂ (entry x) q r ∙ three_first)
      go (beside q r a d n) =
          elim (dec_lt w.c w.p) [
            | yes l ↦
                (let p : w.p ≡ w.c + 1 = omega arith in
                let one = from_one w.c q (λ t. w.number (ap (entry x w.c) p ∙ t)) in
                two_one (omega arith) one)
            | no l ↦
                (let c : w.c ≡ w.p + 1 = omega arith in
                let one = from_one w.p r (λ t. w.number (entry_symmetric x w.c w.p ∙ ap (entry x w.p) c ∙ t)) in
                one_two one (omega arith))
          ]
