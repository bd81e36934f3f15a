-- Where the parts of a layout stand: the lengths of what comes before them. Assumes nothing.
use mathlib.Core.List.{List, [], ◌++◌, append_assoc, append-nil}
use mathlib.Core.Path.{◌≡◌, refl, sym, ap, ap₂, ◌∙◌}
use Prim.Native.Nat.{ℕ, zero, suc, ◌+◌, ◌-◌, ◌*◌, ◌/◌, ◌<◌}
use native.Mathlib.Nat.{mul_assoc}
use native.Mathlib.Numerals.{sub-one}
use native.Mathlib.Omega.{arith}
use lib.ListN.{length, take, drop, length-append}
use lib.Seq.{take_at, drop_at}
use Rattle.filing.specs.Bytes.{blocks}
use Rattle.filing.specs.Diagrams.{Diagram, IsDiagram}
use Rattle.filing.specs.Records.{node_length, nodes_length, pairs_length, node_bytes, pair_bytes, layout}
use Rattle.filing.proofs.Bytes.{length_blocks}
use Rattle.filing.proofs.Layouts.{Cut, node_cut, pair_cut, length_nodes_of, length_pairs_of, length_pair_bytes, length_nodes_part}

-- x stands in l from place k on
pub record Placed (l : List ℕ) (k : ℕ) (x : List ℕ) : Type 0 where
  pub before : List ℕ
  pub after : List ℕ
  pub cut : l ≡ before ++ (x ++ after)
  pub place : length before ≡ k

pub placed_read : {l : List ℕ} {k : ℕ} {x : List ℕ} → Placed l k x → take (length x) (drop k l) ≡ x
placed_read {l} {k} {x} p = rw (p.cut, drop_at p.before (x ++ p.after) k p.place) (take_at x p.after (length x) refl)

pub placed_whole : (x : List ℕ) → Placed x zero x
placed_whole x = record { before = []; after = []; cut = sym (append-nil x); place = refl }

pub placed_left : {l : List ℕ} {k : ℕ} {x : List ℕ} → Placed l k x → (m : List ℕ) → Placed (l ++ m) k x
placed_left {l} {k} {x} p m = record { before = p.before; after = p.after ++ m; cut = rw p.cut (simp append_assoc); place = p.place }

pub placed_right : (m : List ℕ) {l : List ℕ} {k : ℕ} {x : List ℕ} → Placed l k x → Placed (m ++ l) (length m + k) x
placed_right m {l} {k} {x} p = record {
  before = m ++ p.before;
  after = p.after;
  cut = rw p.cut (simp append_assoc);
  place = length-append m p.before ∙ ap (λ n. length m + n) p.place;
}

pub placed_in : {l : List ℕ} {k : ℕ} {x : List ℕ} {j : ℕ} {y : List ℕ} → Placed l k x → Placed x j y → Placed l (k + j) y
placed_in {l} {k} {x} {j} {y} p q = record {
  before = p.before ++ q.before;
  after = q.after ++ p.after;
  cut = p.cut ∙ rw q.cut (simp append_assoc);
  place = length-append p.before q.before ∙ ap₂ ◌+◌ p.place q.place;
}

pub placed_at : {l : List ℕ} {j k : ℕ} {x : List ℕ} → j ≡ k → Placed l j x → Placed l k x
placed_at e p = rw e at p

pub placed_cut : {l a x : List ℕ} {k : ℕ} → Cut l a x → length a ≡ k → Placed l k x
placed_cut {a = a} c e = record { before = a; after = c.rest; cut = c.whole; place = e }

-- ---- the places of the filing record

-- j (j − 1) is even
twice : (j : ℕ) → (t : ℕ) × (j * (j - 1) ≡ 2 * t)
twice zero = (zero, refl)
twice (suc zero) = (zero, refl)
twice (suc (suc j)) = let (t, e) = twice (suc j) in (t + suc j, simp sub-one (omega (arith, simp sub-one at e)))

half_pairs : (j : ℕ) → 8 * (j * (j - 1) / 2) ≡ pairs_length j
half_pairs j = let (t, e) = twice j in rw (mul_assoc 4 j (j - 1), e) (omega arith)

module _ (N : ℕ) {d : Diagram} (w : IsDiagram N d) (p : ℕ → ℕ) where
  pub node_placed : (i : ℕ) → i < d.size → Placed (layout N d p) (1 + node_length * i) (node_bytes (d.node (p i)))
  node_placed i h = placed_cut (node_cut N d p i h) (omega (arith, length_nodes_of d p i))

  pub pair_placed : (i j : ℕ) → i < j → j < d.size → Placed (layout N d p) (1 + nodes_length N + 8 * (j * (j - 1) / 2 + i)) (pair_bytes (d.edge (p i) (p j)))
  pair_placed i j h k = placed_cut (pair_cut N d p i j h k) (simp length-append (omega (arith, length_nodes_part N d w.few p, length_pairs_of d p j, row, half_pairs j)))
    where
      row : length (blocks (λ t. pair_bytes (d.edge (p t) (p j))) i) ≡ 8 * i
      row = length_blocks _ 8 i (λ t l. length_pair_bytes (d.edge (p t) (p j)))
