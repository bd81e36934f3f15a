-- The diagram that a layout spells shows in its own order what the filed one shows under the layout's numbering, so that its layouts are the filed one's. So
-- bytes are laid out exactly when what they spell is a diagram and they are its layout as it stands, and a record exactly when they are its record. Assumes nothing.
use mathlib.Core.List.{List, ◌∷◌, ◌++◌, []}
use mathlib.Core.Logic.{◌≢◌, ◌↔◌}
use mathlib.Core.Path.{◌≡◌, refl, sym, ap, ◌∙◌, subst}
use Prim.Native.Nat.{ℕ, ◌+◌, ◌*◌, ◌^◌, ◌<◌}
use native.Mathlib.Decide.{dec_lt}
use native.Mathlib.Nat.{add-zero, min-eq_left, max-eq_right, min_comm, max_comm, le_of_lt}
use native.Mathlib.Omega.{arith}
use lib.ListN.{get_or, take, drop}
use lib.Seq.{get_or_at}
use Rattle.filing.specs.Bytes.{bytes, value}
use Rattle.filing.specs.Diagrams.{Node, Diagram, IsNode, IsEdge, IsDiagram, Carries, Iso}
use Rattle.filing.specs.Fractions.{Fraction, SameFraction, lowest}
use Rattle.filing.specs.Numberings.{Numbering}
use Rattle.filing.specs.Readable.{Readable, LaidOut, number_at, node_at, pair_place, fraction_at, spelled}
use Rattle.filing.specs.Records.{node_length, node_bytes, pair_bytes, layout, IsRecord}
use Rattle.filing.proofs.Bytes.{length_bytes, value_bytes}
use Rattle.filing.proofs.Filing.{iso_sym, layout_carried, record_carried}
use Rattle.filing.proofs.Gcd.{lowest_is_same, lowest_twice}
use Rattle.filing.proofs.Layouts.{lowest_edge}
use Rattle.filing.proofs.Numberings.{identity, differ}
use Rattle.filing.proofs.Places.{Placed, placed_read, placed_whole, placed_left, placed_right, placed_in, placed_at, node_placed, pair_placed}

-- ---- reading what is placed

number_read : {l : List ℕ} {k : ℕ} (w x : ℕ) → x < 256 ^ w → Placed l k (bytes w x) → number_at w l k ≡ x
unfolding number_at
number_read {l} {k} w x h p = ap value (subst (λ n. take n (drop k l) ≡ bytes w x) (length_bytes w x) (placed_read p)) ∙ value_bytes w x h

head_read : {l : List ℕ} {k x : ℕ} {xs : List ℕ} → Placed l k (x ∷ xs) → get_or l k 0 ≡ x
head_read {l} {k} {x} {xs} p = rw p.cut (get_or_at p.before x (xs ++ p.after) 0 k p.place)

node_read : {l : List ℕ} (i : ℕ) {v : Node} → IsNode v → Placed l (1 + node_length * i) (node_bytes v) → node_at l i ≡ v
unfolding node_at node_bytes
node_read i {v} h p =
    let kind = head_read p in
    let bits = number_read 8 v.bits h.bits_fit (placed_in p (placed_right (v.kind ∷ []) (placed_whole (bytes 8 v.bits)))) in
    λ t. record { kind = kind t; bits = bits t }

fraction_read : {l : List ℕ} {k : ℕ} {x : Fraction} → IsEdge x → Placed l k (pair_bytes x) → fraction_at l k ≡ lowest x
unfolding fraction_at pair_bytes
fraction_read {l} {k} {x} h p =
    let lx = lowest_edge h in
    let first : List ℕ = bytes 4 (lowest x).num in
    let second : List ℕ = bytes 4 (lowest x).den in
    let num = number_read 4 (lowest x).num lx.fits (placed_at (add-zero k) (placed_in p (placed_left (placed_whole first) second))) in
    let den = number_read {k = k + 4} 4 (lowest x).den (omega (arith, lx)) (placed_in p (placed_right first (placed_whole second))) in
    λ i. record { num = num i; den = den i }

-- ---- the diagram read back

pub pair_place_comm : (N i j : ℕ) → pair_place N i j ≡ pair_place N j i
unfolding pair_place
pair_place_comm N i j = rw (min_comm i j, max_comm i j)

module _ (N : ℕ) {d : Diagram} (w : IsDiagram N d) {p : ℕ → ℕ} (np : Numbering d.size p) where
  pub read_node : (i : ℕ) → i < d.size → (spelled N (layout N d p)).node i ≡ d.node (p i)
  unfolding spelled
  read_node i h = node_read i (w.nodes (p i) (np.within i h)) (node_placed N w p i h)

  read_pair : (i j : ℕ) → i < j → j < d.size → fraction_at (layout N d p) (pair_place N i j) ≡ lowest (d.edge (p i) (p j))
  unfolding pair_place
  read_pair i j h k =
      let hi : i < d.size = omega arith in
      rw (min-eq_left (le_of_lt h), max-eq_right (le_of_lt h))
      (fraction_read (w.edges (p i) (p j) (np.within i hi) (np.within j k) (differ np hi k (omega arith))) (pair_placed N w p i j h k))

  pub read_edge : (i j : ℕ) → i < d.size → j < d.size → i ≢ j → (spelled N (layout N d p)).edge i j ≡ lowest (d.edge (p i) (p j))
  unfolding spelled
  read_edge i j hi hj ne = go (dec_lt i j)
    where
      go : Dec (i < j) → fraction_at (layout N d p) (pair_place N i j) ≡ lowest (d.edge (p i) (p j))
      go (yes h) = read_pair i j h hj
      go (no h) =
          ap (fraction_at (layout N d p)) (pair_place_comm N i j) ∙ read_pair j i (omega arith) hi
          ∙ ap lowest (w.symmetric (p j) (p i) (np.within j hj) (np.within i hi) (differ np hj hi (omega arith)))

  read_lowest : (i j : ℕ) → i < (spelled N (layout N d p)).size → j < (spelled N (layout N d p)).size → i ≢ j → lowest ((spelled N (layout N d p)).edge i j) ≡ (spelled N (layout N d p)).edge i j
  unfolding spelled layout
  read_lowest i j hi hj ne =
      subst (λ x. lowest x ≡ x) (sym (read_edge i j hi hj ne)) (lowest_twice (d.edge (p i) (p j)) (w.edges (p i) (p j) (np.within i hi) (np.within j hj) (differ np hi hj ne)).den_pos)

  pub read_is_diagram : IsDiagram N (spelled N (layout N d p))
  unfolding spelled layout
  read_is_diagram = record {
    few = w.few;
    nodes = λ i h. subst IsNode (sym (read_node i h)) (w.nodes (p i) (np.within i h));
    edges = λ i j hi hj ne. subst IsEdge (sym (read_edge i j hi hj ne)) (lowest_edge (w.edges (p i) (p j) (np.within i hi) (np.within j hj) (differ np hi hj ne)));
    symmetric = λ i j hi hj ne. ap (fraction_at (layout N d p)) (pair_place_comm N i j);
  }

  pub read_carries : Carries (spelled N (layout N d p)) d p
  unfolding spelled layout
  read_carries = record {
    size = refl;
    numbering = np;
    nodes = read_node;
    edges = λ i j hi hj ne. subst (λ x. SameFraction x (d.edge (p i) (p j))) (sym (read_edge i j hi hj ne)) (lowest_is_same (d.edge (p i) (p j)));
  }

  -- its layouts are d's
  read_layout : {q : ℕ → ℕ} → Numbering d.size q → layout N (spelled N (layout N d p)) q ≡ layout N d (λ i. p (q i))
  unfolding spelled layout
  read_layout nq = (layout_carried read_is_diagram w read_carries nq).1

-- ---- bytes that are laid out

module _ (N : ℕ) (l : List ℕ) (h : LaidOut N l) where
  pub laid_out_diagram : IsDiagram N (spelled N l)
  laid_out_diagram = subst (λ z. IsDiagram N (spelled N z)) (sym h.laid) (read_is_diagram N h.is h.valid)

  pub laid_out_plain : layout N (spelled N l) (λ i. i) ≡ l
  laid_out_plain = subst (λ z. layout N (spelled N z) (λ i. i) ≡ z) (sym h.laid) (read_layout N h.is h.valid (identity h.of.size))

  -- they spell lowest terms
  pub laid_out_lowest : (i j : ℕ) → i < (spelled N l).size → j < (spelled N l).size → i ≢ j → lowest ((spelled N l).edge i j) ≡ (spelled N l).edge i j
  laid_out_lowest =
      subst (λ z. (i j : ℕ) → i < (spelled N z).size → j < (spelled N z).size → i ≢ j → lowest ((spelled N z).edge i j) ≡ (spelled N z).edge i j) (sym h.laid)
      (read_lowest N h.is h.valid)

  pub laid_out_iso : Iso (spelled N l) h.of
  laid_out_iso = subst (λ z. Iso (spelled N z) h.of) (sym h.laid) (h.numbering, read_carries N h.is h.valid)

-- BYTES ARE LAID OUT EXACTLY WHEN WHAT THEY SPELL IS A DIAGRAM AND HAS THEM AS ITS LAYOUT AS IT STANDS
pub laid_out_iff : (N : ℕ) (l : List ℕ) → LaidOut N l ↔ (IsDiagram N (spelled N l) × (layout N (spelled N l) (λ i. i) ≡ l))
laid_out_iff N l = (λ h. (laid_out_diagram N l h, laid_out_plain N l h), from)
  where
    from : IsDiagram N (spelled N l) × (layout N (spelled N l) (λ i. i) ≡ l) → LaidOut N l
    from (w, e) = record { of = spelled N l; is = w; numbering = λ i. i; valid = identity (spelled N l).size; laid = sym e }

-- diagrams that are laid out as the same bytes have the same record, that of the diagram which the bytes spell
module _ {N : ℕ} {l a : List ℕ} (h : LaidOut N l) where
  pub record_of_spelled : IsRecord N h.of a → IsRecord N (spelled N l) a
  record_of_spelled r = record_carried h.is (laid_out_diagram N l h) (iso_sym (laid_out_diagram N l h) h.is (laid_out_iso N l h)) r

  pub record_of_laid_out : IsRecord N (spelled N l) a → IsRecord N h.of a
  record_of_laid_out r = record_carried (laid_out_diagram N l h) h.is (laid_out_iso N l h) r

-- ---- records

abbrev pub readable_laid_out : {N : ℕ} {l : List ℕ} → Readable N l → LaidOut N l
readable_laid_out (d, w, r) = record { of = d; is = w; numbering = r.numbering; valid = r.valid; laid = r.laid }

-- a record is that of every diagram which is laid out so
pub readable_record : {N : ℕ} {l : List ℕ} (h : LaidOut N l) → Readable N l → IsRecord N h.of l
readable_record h (d, w, r) = record_of_laid_out h (record_of_spelled (readable_laid_out (d, w, r)) r)

-- BYTES ARE A RECORD EXACTLY WHEN THE DIAGRAM THAT THEY SPELL IS ONE AND HAS THEM FOR ITS RECORD
pub is_record_iff : (N : ℕ) (l : List ℕ) → Readable N l ↔ (IsDiagram N (spelled N l) × IsRecord N (spelled N l) l)
is_record_iff N l = (to, λ r. (spelled N l, r.0, r.1))
  where
    to : Readable N l → IsDiagram N (spelled N l) × IsRecord N (spelled N l) l
    to (d, w, r) = let h = readable_laid_out (d, w, r) in (laid_out_diagram N l h, record_of_spelled h r)
