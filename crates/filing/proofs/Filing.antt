-- A layout shows all of a diagram but its numbering. So equal records give two numberings under which the diagrams show the same, and one after the other's
-- inverse carries one onto the other; and what is carried has the same layouts, so the same smallest one. Assumes nothing.
use mathlib.Core.List.{List, ◌++◌, head-eq_of_cons-eq, tail-eq_of_cons-eq}
use mathlib.Core.Logic.{◌≢◌, ◌↔◌}
use mathlib.Core.Path.{◌≡◌, refl, sym, ap, ◌∙◌, subst, subst₂}
use Prim.Native.Nat.{ℕ, ◌^◌, ◌<◌}
use native.Mathlib.Decide.{dec_lt}
use native.Mathlib.Omega.{arith}
use Rattle.filing.specs.Bytes.{bytes, filled, ◌≼◌}
use Rattle.filing.specs.Diagrams.{Node, Diagram, Carries, Iso, IsEdge, IsDiagram}
use Rattle.filing.specs.Fractions.{Fraction, SameFraction, lowest}
use Rattle.filing.specs.Numberings.{Numbering}
use Rattle.filing.specs.Records.{nodes_length, pairs_length, node_bytes, pair_bytes, nodes_of, row_of, pairs_of, layout, IsRecord}
use Rattle.filing.proofs.Bytes.{bytes_injective, append_injective, blocks_injective, filled_injective}
use Rattle.filing.proofs.Gcd.{lowest_same}
use Rattle.filing.proofs.Layouts.{lowest_edge, length_nodes_of, length_row_of, length_pairs_of, length_nodes_part, layouts_equal}
use Rattle.filing.proofs.Numberings.{identity, compose, differ, inverse, inverse_right, inverse_left, inverse_numbering}
use Rattle.filing.proofs.Order.{≼_antisym}

-- ---- a layout shows everything but the numbering

-- what d shows under p is what e shows under q
pub record Agree (d e : Diagram) (p q : ℕ → ℕ) : Type 0 where
  pub size : d.size ≡ e.size
  pub nodes : (i : ℕ) → i < d.size → d.node (p i) ≡ e.node (q i)
  pub pairs : (i j : ℕ) → i < j → j < d.size → SameFraction (d.edge (p i) (p j)) (e.edge (q i) (q j))

node_bytes_injective : (u v : Node) → u.bits < 2 ^ 64 → v.bits < 2 ^ 64 → node_bytes u ≡ node_bytes v → u ≡ v
unfolding node_bytes
node_bytes_injective u v hu hv e =
    let k = head-eq_of_cons-eq e in
    let b = bytes_injective 8 u.bits v.bits hu hv (tail-eq_of_cons-eq e) in
    λ i. record { kind = k i; bits = b i }

pair_bytes_same : {x y : Fraction} → IsEdge x → IsEdge y → (pair_bytes x ≡ pair_bytes y) ↔ SameFraction x y
unfolding pair_bytes
pair_bytes_same {x} {y} hx hy = (to, from)
  where
    to : pair_bytes x ≡ pair_bytes y → SameFraction x y
    to e =
        let lx : IsEdge (lowest x) = lowest_edge hx in
        let ly : IsEdge (lowest y) = lowest_edge hy in
        let r = append_injective (bytes 4 (lowest x).num) (bytes 4 (lowest y).num) refl e in
        let num = bytes_injective 4 (lowest x).num (lowest y).num lx.fits ly.fits r.0 in
        let den = bytes_injective 4 (lowest x).den (lowest y).den (omega arith) (omega arith) r.1 in
        (lowest_same x y hx.den_pos hy.den_pos).1 (λ i. record { num = num i; den = den i })

    from : SameFraction x y → pair_bytes x ≡ pair_bytes y
    from e = ap (λ z. bytes 4 z.num ++ bytes 4 z.den) ((lowest_same x y hx.den_pos hy.den_pos).0 e)

-- places i < j under p
pair_is_edge : {N : ℕ} {d : Diagram} {p : ℕ → ℕ} → IsDiagram N d → Numbering d.size p → (i j : ℕ) → i < j → j < d.size → IsEdge (d.edge (p i) (p j))
pair_is_edge {d = d} {p = p} w np i j h k =
    let hi : i < d.size = omega arith in w.edges (p i) (p j) (np.within i hi) (np.within j k) (differ np hi k (omega arith))

module _ (N : ℕ) {d e : Diagram} (wd : IsDiagram N d) (we : IsDiagram N e) {p q : ℕ → ℕ} (np : Numbering d.size p) (nq : Numbering e.size q) where
  pub layout_shows : layout N d p ≡ layout N e q → Agree d e p q
  unfolding layout
  layout_shows l = record { size = size; nodes = nodes; pairs = pairs }
    where
      n : ℕ
      n = d.size

      size : n ≡ e.size
      size = head-eq_of_cons-eq l

      parts : (filled (nodes_length N) (nodes_of d p n) ≡ filled (nodes_length N) (nodes_of e q e.size))
          × (filled (pairs_length N) (pairs_of d p n) ≡ filled (pairs_length N) (pairs_of e q e.size))
      parts =
          append_injective (filled (nodes_length N) (nodes_of d p n)) (filled (nodes_length N) (nodes_of e q e.size))
          (length_nodes_part N d wd.few p ∙ sym (length_nodes_part N e we.few q)) (tail-eq_of_cons-eq l)

      same_nodes : nodes_of d p n ≡ nodes_of e q n
      same_nodes =
          filled_injective (nodes_length N) (nodes_of d p n) (nodes_of e q n) (length_nodes_of d p n ∙ sym (length_nodes_of e q n)) (rw (← size) at parts.0)

      nodes : (i : ℕ) → i < n → d.node (p i) ≡ e.node (q i)
      nodes i h =
          node_bytes_injective (d.node (p i)) (e.node (q i)) (wd.nodes (p i) (np.within i h)).bits_fit (we.nodes (q i) (nq.within i (rw size at h))).bits_fit
          (blocks_injective _ _ n (λ j k. refl) same_nodes i h)

      same_pairs : pairs_of d p n ≡ pairs_of e q n
      same_pairs =
          filled_injective (pairs_length N) (pairs_of d p n) (pairs_of e q n) (length_pairs_of d p n ∙ sym (length_pairs_of e q n)) (rw (← size) at parts.1)

      pairs : (i j : ℕ) → i < j → j < n → SameFraction (d.edge (p i) (p j)) (e.edge (q i) (q j))
      pairs i j h k =
          let row = blocks_injective (row_of d p) (row_of e q) n (λ t m. length_row_of d p t ∙ sym (length_row_of e q t)) same_pairs j k in
          (pair_bytes_same (pair_is_edge wd np i j h k) (pair_is_edge we nq i j h (rw size at k))).0
          (blocks_injective _ _ j (λ t m. refl) row i h)

  pub layout_same : Agree d e p q → layout N d p ≡ layout N e q
  layout_same a =
      layouts_equal d e p q N a.size (λ i h. ap node_bytes (a.nodes i h))
      (λ i j h k. (pair_bytes_same (pair_is_edge wd np i j h k) (pair_is_edge we nq i j h (rw a.size at k))).1 (a.pairs i j h k))

-- ---- records and carrying

-- f carries d onto e: e shows under f after p what d shows under p
pub carried : {d e : Diagram} {f p : ℕ → ℕ} → Carries d e f → Numbering d.size p → Agree d e p (λ i. f (p i))
carried {d} {e} {f} {p} c np = record {
  size = c.size;
  nodes = λ i h. c.nodes (p i) (np.within i h);
  pairs = λ i j h k. let hi : i < d.size = omega arith in c.edges (p i) (p j) (np.within i hi) (np.within j k) (differ np hi k (omega arith));
}

agree_sym : {d e : Diagram} {p q : ℕ → ℕ} → Agree d e p q → Agree e d q p
agree_sym a = record {
  size = sym a.size;
  nodes = λ i h. sym (a.nodes i (rw (← a.size) at h));
  pairs = λ i j h k. sym (a.pairs i j h (rw (← a.size) at k));
}

-- the other way: what agrees under p and q is carried by q after the inverse of p
module _ {N : ℕ} {d e : Diagram} (wd : IsDiagram N d) (we : IsDiagram N e) {p q : ℕ → ℕ} (np : Numbering d.size p) (nq : Numbering e.size q) (a : Agree d e p q) where
  agree_edges : (i j : ℕ) → i < d.size → j < d.size → i ≢ j → SameFraction (d.edge (p i) (p j)) (e.edge (q i) (q j))
  agree_edges i j h k ne = go (dec_lt i j)
    where
      hi : i < e.size
      hi = rw a.size at h

      hj : j < e.size
      hj = rw a.size at k

      go : Dec (i < j) → SameFraction (d.edge (p i) (p j)) (e.edge (q i) (q j))
      go (yes l) = a.pairs i j l k
      go (no l) =
          rw (
            wd.symmetric (p i) (p j) (np.within i h) (np.within j k) (differ np h k ne),
            we.symmetric (q i) (q j) (nq.within i hi) (nq.within j hj) (differ nq hi hj ne),
          )
          (a.pairs j i (omega arith) h)

  agree_carries : Carries d e (λ i. q (inverse d.size p i))
  agree_carries = record { size = a.size; numbering = compose (rw (← a.size) at nq) nb; nodes = nodes; edges = edges }
    where
      back : ℕ → ℕ
      back = inverse d.size p

      nb : Numbering d.size back
      nb = inverse_numbering np

      nodes : (i : ℕ) → i < d.size → d.node i ≡ e.node (q (back i))
      nodes i h = ap d.node (sym (inverse_right np i h)) ∙ a.nodes (back i) (nb.within i h)

      edges : (i j : ℕ) → i < d.size → j < d.size → i ≢ j → SameFraction (d.edge i j) (e.edge (q (back i)) (q (back j)))
      edges i j h k ne =
          subst₂ (λ x y. SameFraction (d.edge x y) (e.edge (q (back i)) (q (back j)))) (inverse_right np i h) (inverse_right np j k)
          (agree_edges (back i) (back j) (nb.within i h) (nb.within j k) (differ nb h k ne))

-- under numberings that lay out the same bytes, what has one place corresponds
pub places_correspond : (N : ℕ) {d e : Diagram} → IsDiagram N d → IsDiagram N e → {p q : ℕ → ℕ} → Numbering d.size p → Numbering e.size q → layout N d p ≡ layout N e q
    → (f : ℕ → ℕ) × Carries d e f × ((i : ℕ) → i < d.size → f (p i) ≡ q i)
places_correspond N wd we {p} {q} np nq l = (_, agree_carries wd we np nq (layout_shows N wd we np nq l), λ i h. ap q (inverse_left np i h))

module _ {N : ℕ} {d e : Diagram} (wd : IsDiagram N d) (we : IsDiagram N e) where
  pub iso_sym : Iso d e → Iso e d
  iso_sym (f, c) =
      let a = carried c (identity d.size) in
      (_, agree_carries we wd (rw c.size at c.numbering) (identity d.size) (agree_sym a))

  -- each layout of d is one of e
  pub layout_carried : {f p : ℕ → ℕ} → Carries d e f → Numbering d.size p → Numbering e.size (λ i. f (p i)) × (layout N d p ≡ layout N e (λ i. f (p i)))
  layout_carried {f} {p} c np =
      let nq : Numbering e.size (λ i. f (p i)) = rw c.size at (compose c.numbering np) in
      (nq, layout_same N wd we np nq (carried c np))

-- what carries a diagram carries its record
pub record_carried : {N : ℕ} {d e : Diagram} → IsDiagram N d → IsDiagram N e → Iso d e → {a : List ℕ} → IsRecord N d a → IsRecord N e a
record_carried {N} {d} {e} wd we (f, c) {a} r = record {
  numbering = λ i. f (r.numbering i);
  valid = (layout_carried wd we c r.valid).0;
  laid = r.laid ∙ (layout_carried wd we c r.valid).1;
  least = λ q nq. let (n, same) = layout_carried we wd back.1 nq in subst (λ l. a ≼ l) (sym same) (r.least (λ i. back.0 (q i)) n);
}
  where
    back : Iso e d
    back = iso_sym wd we (f, c)

pub record_unique : {N : ℕ} {d : Diagram} {a b : List ℕ} → IsRecord N d a → IsRecord N d b → a ≡ b
record_unique ra rb = ≼_antisym (rw rb.laid (ra.least rb.numbering rb.valid)) (rw ra.laid (rb.least ra.numbering ra.valid))

-- THE FILING THEOREM
module _ (N : ℕ) {d e : Diagram} (wd : IsDiagram N d) (we : IsDiagram N e) {a b : List ℕ} (ra : IsRecord N d a) (rb : IsRecord N e b) where
  pub no_false_match : a ≡ b → Iso d e
  no_false_match s = let (f, c, to) = places_correspond N wd we ra.valid rb.valid (sym ra.laid ∙ s ∙ rb.laid) in (f, c)

  pub no_missed_match : Iso d e → a ≡ b
  no_missed_match i = record_unique (record_carried wd we i ra) rb

  pub same_record_iff_iso : (a ≡ b) ↔ Iso d e
  same_record_iff_iso = (no_false_match, no_missed_match)
