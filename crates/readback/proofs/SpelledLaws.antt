-- The diagram that is read back shows what the bytes spell: its nodes stand one after another, and of the stored edges only that of the pair's own place
-- joins a pair, none where the bytes spell a two. So it has the layouts of the spelled diagram. Assumes nothing.
use mathlib.Core.Bool.{Bool, true, false, not, ◌||◌}
use mathlib.Core.List.{List, [], ◌∷◌, ◌++◌, append-nil}
use mathlib.Core.Logic.{◌≢◌, inl, ⊎_elim}
use mathlib.Core.Path.{◌≡◌, refl, sym, ap, ◌∙◌, subst}
use Prim.Native.Nat.{ℕ, zero, suc, ◌*◌, ◌^◌, ◌≤◌, ◌<◌}
use native.Mathlib.Decide.{dec_lt}
use native.Mathlib.Nat.{not-suc-le-zero, le_refl}
use native.Mathlib.Omega.{arith}
use borrow.Author.Tests.{eqb-true}
use lib.Dec.{T}
use lib.Ieee.{binary64, of_bits, to_bits, nan_bits}
use lib.Ieee.Bits.{to_bits-of_bits, nan_bits_is}
use lib.ListN.{length, get_or}
use Rattle.float.specs.Pick.{pick}
use Rattle.cd.specs.Diagrams.{Stored, joins, is_joined}
use Rattle.cd.specs.Edges.{is_two, fraction, edge_of}
use Rattle.cd.specs.declared.Edge.{Edge}
use Rattle.cd.specs.declared.Node.TheVariants.{Unringed}
use Rattle.cd.proofs.Stored.{joins_same}
use Rattle.filing.specs.Bytes.{blocks}
use Rattle.filing.specs.Diagrams.{Diagram, IsNode, IsEdge, IsDiagram, Carries}
use Rattle.filing.specs.Diagrams as filing
use Rattle.filing.specs.Fractions.{Fraction, SameFraction}
use Rattle.filing.specs.Numberings.{Numbering}
use Rattle.filing.specs.Readable.{node_at, fraction_at, pair_place, spelled}
use Rattle.filing.specs.Records.{layout}
use Rattle.filing.proofs.Bytes.{singles_at, one_more}
use Rattle.filing.proofs.Filing.{layout_carried}
use Rattle.filing.proofs.Gcd.{lowest_whole}
use Rattle.filing.proofs.Numberings.{identity}
use Rattle.tables.specs.Diagrams.{filed, two, joint, diagram}
use Rattle.tables.specs.Tables.{IsNumber, IsLowest, IsKept}
use Rattle.tables.proofs.Joints.{two_edge, joint_symmetric}
use Rattle.readback.specs.Spelled.{node, nodes_to, edge_at, row_to, edges_to, nodes_in, edges_in}
use Rattle.readback.proofs.Nodes.{length_nodes_to}
use Rattle.readback.proofs.StoredEdges.{blocks_apart, edge_apart}

-- ---- nodes

one_to_three : (P : ℕ → Type 0) → P 1 → P 2 → P 3 → (k : ℕ) → 1 ≤ k → k ≤ 3 → P k
one_to_three P a b c zero h l = absurd (not-suc-le-zero h)
one_to_three P a b c (suc zero) h l = a
one_to_three P a b c (suc (suc zero)) h l = b
one_to_three P a b c (suc (suc (suc zero))) h l = c
one_to_three P a b c (suc (suc (suc (suc k)))) h l = let z : ⊥ = omega arith in absurd z

bits_kept : (b : ℕ) → b < 2 ^ 64 → nan_bits binary64 b ≡ false → to_bits binary64 (of_bits binary64 b) ≡ b
bits_kept b h n = to_bits-of_bits binary64 b h (subst (λ t. T (not t)) (sym n ∙ nan_bits_is binary64 b) tt)

module _ (v : filing.Node) (h : IsNode v) where
  -- v, but of kind k
  of : ℕ → filing.Node
  of k = record { kind = k; bits = v.bits }

  pub filed_node : filed (node v) ≡ v
  unfolding filed node of
  filed_node =
      let same = bits_kept v.bits h.bits_fit h.number in
      one_to_three (λ k. (k ≡ 1 → v.bits ≡ 0) → filed (node (of k)) ≡ of k)
      (λ zero_bits t. record { kind = 1; bits = sym (zero_bits refl) t }) (λ _ t. record { kind = 2; bits = same t }) (λ _ t. record { kind = 3; bits = same t })
      v.kind h.kind_low h.kind_high h.unringed

  pub node_number_lem : IsNumber (node v)
  unfolding node of
  node_number_lem =
      let number = sym (nan_bits_is binary64 v.bits) ∙ h.number in
      one_to_three (λ k. IsNumber (node (of k))) tt number number v.kind h.kind_low h.kind_high

pub nodes_to_at : (l : List ℕ) (n i : ℕ) → i < n → get_or (nodes_to l n) i Unringed ≡ node (node_at l i)
unfolding nodes_to
nodes_to_at l n i h = singles_at (λ k. node (node_at l k)) n Unringed i h

-- ---- the fraction between two nodes, of lists end to end

pick_or : (t u : Bool) (a b c : Fraction) → pick t a (pick u b c) ≡ pick (t || u) (pick t a b) c
pick_or true u a b c = refl
pick_or false u a b c = refl

module _ (i j : ℕ) where
  -- no edge in the list joins the two nodes
  abbrev Clear : List Stored → Type 0
  Clear es = is_joined es i j ≡ false

  joint_append : (es fs : List Stored) → joint (es ++ fs) i j ≡ pick (is_joined es i j) (joint es i j) (joint fs i j)
  unfolding joint is_joined
  joint_append [] fs = refl
  joint_append (s ∷ es) fs = rw (joint_append es fs) (pick_or (joins i j s) (is_joined es i j) _ (joint es i j) (joint fs i j))

  joint_whole : (es : List Stored) → joint es i j ≡ pick (is_joined es i j) (joint es i j) two
  unfolding joint
  joint_whole es = ap (λ z. joint z i j) (sym (append-nil es)) ∙ joint_append es []

  joint_clear : (es : List Stored) → Clear es → joint es i j ≡ two
  joint_clear es c = joint_whole es ∙ rw c

  joint_left : (es fs : List Stored) → Clear fs → joint (es ++ fs) i j ≡ joint es i j
  joint_left es fs c = joint_append es fs ∙ ap (pick (is_joined es i j) (joint es i j)) (joint_clear fs c) ∙ sym (joint_whole es)

  joint_right : (es fs : List Stored) → Clear es → joint (es ++ fs) i j ≡ joint fs i j
  joint_right es fs c = joint_append es fs ∙ rw c

  -- of blocks, where only block k may join the two
  joint_blocks : (g : ℕ → List Stored) (n k : ℕ) → k < n → ((m : ℕ) → m < n → m ≢ k → Clear (g m)) → joint (blocks g n) i j ≡ joint (g k) i j
  unfolding blocks
  joint_blocks g zero k h c = absurd (not-suc-le-zero h)
  joint_blocks g (suc n) k h c =
      one_more (λ k. ((m : ℕ) → m < suc n → m ≢ k → Clear (g m)) → joint (blocks g n ++ g n) i j ≡ joint (g k) i j)
      (λ k l d. joint_left (blocks g n) (g n) (d n (le_refl (suc n)) (omega arith)) ∙ joint_blocks g n k l (λ m o. d m (omega arith)))
      (λ d. joint_right (blocks g n) (g n) (blocks_apart g i j n (λ m o. d m (omega arith) (omega arith)))) k h c

  -- of one edge that is stored unless t
  joint_stored : (t : Bool) (s : Stored) → joins i j s ≡ true → joint (pick t [] (s ∷ [])) i j ≡ pick t two (fraction s.edge)
  unfolding joint
  joint_stored true s h = refl
  joint_stored false s h = rw h

-- ---- the fraction between two nodes that is read back

-- what storing keeps of a fraction: 2/1 of a two, which is not stored
unfoldable kept : Fraction → Fraction
unfolding is_two
kept x = pick (is_two (edge_of x)) two x

picked_same : (t : Bool) (x : Fraction) → (t ≡ true → x.num ≡ 2 * x.den) → SameFraction (pick t two x) x
picked_same true x h = let e : x.num ≡ 2 * x.den = h refl in omega arith
picked_same false x h = refl

kept_same : (x : Fraction) → SameFraction (kept x) x
unfolding kept
kept_same x = picked_same (is_two (edge_of x)) x (λ h. eqb-true x.num (2 * x.den) h)

picked_edge : (t : Bool) (x : Fraction) → IsEdge x → IsEdge (pick t two x)
picked_edge true x h = two_edge
picked_edge false x h = h

kept_edge_lem : (x : Fraction) → IsEdge x → IsEdge (kept x)
unfolding kept
kept_edge_lem x h = picked_edge (is_two (edge_of x)) x h

picked_lowest : (t : Bool) (x : Fraction) → IsLowest x → IsLowest (pick t two x)
picked_lowest true x h = lowest_whole 2
picked_lowest false x h = h

kept_lowest : (x : Fraction) → IsLowest x → IsLowest (kept x)
unfolding kept
kept_lowest x h = picked_lowest (is_two (edge_of x)) x h

module _ (N : ℕ) (l : List ℕ) where
  joint_edge_at : (i j : ℕ) → joint (edge_at N l j i) i j ≡ kept (fraction_at l (pair_place N i j))
  unfolding edge_at kept
  joint_edge_at i j =
      let e : Edge = edge_of (fraction_at l (pair_place N i j)) in
      let s : Stored = record { first = i; other = j; edge = e } in
      joint_stored i j (is_two e) s (joins_same i j s (inl (refl, refl)))

  joint_rising : (n i j : ℕ) → i < j → j < n → joint (edges_to N l n) i j ≡ kept (fraction_at l (pair_place N i j))
  unfolding edges_to row_to
  joint_rising n i j h k =
      joint_blocks i j (λ m. row_to N l m m) n j k (λ m o ne. blocks_apart (edge_at N l m) i j m (λ t q. edge_apart N l m t i j (⊎_elim (λ e. ne e.1) (λ e. omega arith))))
      ∙ joint_blocks i j (edge_at N l j) j i h (λ m o ne. edge_apart N l j m i j (⊎_elim (λ e. ne e.0) (λ e. omega arith)))
      ∙ joint_edge_at i j

-- ---- the diagram that is read back

abbrev pub read_back : ℕ → List ℕ → Diagram
read_back N l = diagram (nodes_in l) (edges_in N l)

module _ (N : ℕ) (l : List ℕ) where
  pub spelled_size : (read_back N l).size ≡ (spelled N l).size
  unfolding diagram spelled
  spelled_size = length_nodes_to l (get_or l 0 0)

  back_symmetric : (i j : ℕ) → (read_back N l).edge i j ≡ (read_back N l).edge j i
  unfolding diagram
  back_symmetric i j = joint_symmetric (edges_in N l) i j

module _ (N : ℕ) (l : List ℕ) (w : IsDiagram N (spelled N l)) where
  pub spelled_node : (i : ℕ) → i < (spelled N l).size → (read_back N l).node i ≡ (spelled N l).node i
  unfolding diagram spelled
  spelled_node i h = ap filed (nodes_to_at l (get_or l 0 0) i h) ∙ filed_node (node_at l i) (w.nodes i h)

  pub spelled_numbers : (i : ℕ) → i < length (nodes_in l) → IsNumber (get_or (nodes_in l) i Unringed)
  unfolding spelled
  spelled_numbers i h =
      let k : i < get_or l 0 0 = rw (← (length_nodes_to l (get_or l 0 0))) h in
      subst IsNumber (sym (nodes_to_at l (get_or l 0 0) i k)) (node_number_lem (node_at l i) (w.nodes i k))

  spelled_kept : (i j : ℕ) → i < (spelled N l).size → j < (spelled N l).size → i ≢ j → (read_back N l).edge i j ≡ kept ((spelled N l).edge i j)
  unfolding diagram spelled
  spelled_kept i j h k ne = go (dec_lt i j)
    where
      n : ℕ
      n = get_or l 0 0

      go : Dec (i < j) → joint (edges_to N l n) i j ≡ kept (fraction_at l (pair_place N i j))
      go (yes o) = joint_rising N l n i j o k
      go (no o) = joint_symmetric (edges_to N l n) i j ∙ joint_rising N l n j i (omega arith) h ∙ ap kept (w.symmetric j i k h (omega arith))

  pub spelled_edge : (i j : ℕ) → i < (spelled N l).size → j < (spelled N l).size → i ≢ j → SameFraction ((read_back N l).edge i j) ((spelled N l).edge i j)
  spelled_edge i j h k ne = rw (spelled_kept i j h k ne) (kept_same ((spelled N l).edge i j))

  pub spelled_is_diagram : IsDiagram N (read_back N l)
  spelled_is_diagram = record { few = rw (spelled_size N l) w.few; nodes = nodes; edges = edges; symmetric = λ i j h k ne. back_symmetric N l i j }
    where
      inside : {i : ℕ} → i < (read_back N l).size → i < (spelled N l).size
      inside h = rw (spelled_size N l) at h

      nodes : (i : ℕ) → i < (read_back N l).size → IsNode ((read_back N l).node i)
      nodes i h = rw (spelled_node i (inside h)) (w.nodes i (inside h))

      edges : (i j : ℕ) → i < (read_back N l).size → j < (read_back N l).size → i ≢ j → IsEdge ((read_back N l).edge i j)
      edges i j h k ne = rw (spelled_kept i j (inside h) (inside k) ne) (kept_edge_lem ((spelled N l).edge i j) (w.edges i j (inside h) (inside k) ne))

  -- numbered alike, the two show the same
  pub spelled_carries : Carries (spelled N l) (read_back N l) (λ i. i)
  spelled_carries = record {
    size = sym (spelled_size N l);
    numbering = identity (spelled N l).size;
    nodes = λ i h. sym (spelled_node i h);
    edges = λ i j h k ne. sym (spelled_edge i j h k ne);
  }

  spelled_lowest : ((i j : ℕ) → i < (spelled N l).size → j < (spelled N l).size → i ≢ j → IsLowest ((spelled N l).edge i j))
      → (i j : ℕ) → i < (read_back N l).size → j < (read_back N l).size → i ≢ j → IsLowest ((read_back N l).edge i j)
  spelled_lowest low i j h k ne =
      let hi : i < (spelled N l).size = rw (spelled_size N l) at h in
      let hj : j < (spelled N l).size = rw (spelled_size N l) at k in
      rw (spelled_kept i j hi hj ne) (kept_lowest ((spelled N l).edge i j) (low i j hi hj ne))

  pub spelled_layout : (p : ℕ → ℕ) → Numbering (spelled N l).size p → layout N (read_back N l) p ≡ layout N (spelled N l) p
  spelled_layout p np = sym (layout_carried w spelled_is_diagram spelled_carries np).1

pub spelled_is_kept : (N : ℕ) (l : List ℕ) → IsKept N (spelled N l) → IsKept N (read_back N l)
spelled_is_kept N l w = record { is = spelled_is_diagram N l w.is; lowest_terms = spelled_lowest N l w.is w.lowest_terms }
