-- There is exactly one first numbering that gives a record. One, since no two lists are each no greater than the other; and one there is: with the list of nodes
-- laid behind the layout, the smallest of all numberings has the record in front, and of those that have it the first list behind. Assumes nothing.
use mathlib.Core.List.{List, [], ◌∷◌, ◌++◌}
use mathlib.Core.Logic.{inl, inr}
use mathlib.Core.Path.{◌≡◌, sym, ap₂, ◌∙◌, subst, subst₂}
use Prim.Native.Nat.{ℕ, zero, suc, ◌≤◌, ◌<◌}
use native.Mathlib.Nat.{suc_inj, suc-ne-zero, zero-lt-suc}
use native.Mathlib.Omega.{arith}
use lib.ListN.{length}
use lib.Seq.{ext_get_or}
use Rattle.filing.specs.Bytes.{blocks, ◌≼◌, ends, less, same}
use Rattle.filing.specs.Diagrams.{Diagram}
use Rattle.filing.specs.First.{First}
use Rattle.filing.specs.Numberings.{Numbering, at}
use Rattle.filing.specs.Records.{layout, IsRecord}
use Rattle.filing.specs.Sequences.{Agree, AtMost}
use Rattle.filing.proofs.Bytes.{blocks_same, length_singles, singles_at}
use Rattle.filing.proofs.Layouts.{layout_local, length_layout}
use Rattle.filing.proofs.Numberings.{numbering_same}
use Rattle.filing.proofs.Order.{≼_antisym, ≼_before, ≼_front}
use Rattle.filing.proofs.Searching.{smallest_key}

-- ---- one at most

pub first_unique : {N : ℕ} {d : Diagram} {bs old old' : List ℕ} → First N d bs old → First N d bs old' → old ≡ old'
first_unique a b = ≼_antisym (a.least _ b.gives) (b.least _ a.gives)

-- ---- one at least

-- a numbering of n nodes as a list
abbrev listed : ℕ → (ℕ → ℕ) → List ℕ
listed n q = blocks (λ i. q i ∷ []) n

listed_at : (n : ℕ) (l : List ℕ) → length l ≡ n → listed n (at l) ≡ l
listed_at n l e = ext_get_or 0 (listed n (at l)) l (length_singles (at l) n ∙ sym e) (λ i h. singles_at (at l) n 0 i (rw (length_singles (at l) n) at h))

module _ (N : ℕ) (d : Diagram) (few : d.size ≤ N) {bs : List ℕ} (ra : IsRecord N d bs) where
  abbrev n : ℕ
  n = d.size

  abbrev key : (ℕ → ℕ) → List ℕ
  key q = layout N d q ++ listed n q

  key_local : (p q : ℕ → ℕ) → ((i : ℕ) → i < n → p i ≡ q i) → key p ≡ key q
  key_local p q e = ap₂ ◌++◌ (layout_local N d p q e) (blocks_same _ _ n (λ i h. let x = e i h in cc))

  -- the smallest of all
  module _ (r : List ℕ) (valid : Numbering n (at r)) (least : (q : ℕ → ℕ) → Numbering n q → key (at r) ≼ key q) where
    laid : bs ≡ layout N d (at r)
    laid =
        let long = length_layout N d few (at r) ∙ sym (length_layout N d few ra.numbering) in
        let front = ≼_front (layout N d (at r)) (layout N d ra.numbering) (listed n (at r)) (listed n ra.numbering) long (least ra.numbering ra.valid) in
        ≼_antisym (ra.least (at r) valid) (subst (λ z. layout N d (at r) ≼ z) (sym ra.laid) front)

    same_nodes : Agree n (at (listed n (at r))) (at r)
    same_nodes i h = singles_at (at r) n 0 i h

    first_found : First N d bs (listed n (at r))
    first_found = record {
      gives = record {
        long = length_singles (at r) n;
        valid = numbering_same same_nodes valid;
        laid = laid ∙ sym (layout_local N d (at (listed n (at r))) (at r) same_nodes);
      };
      least = λ other g. ≼_before (layout N d (at r))
          (subst₂ (λ z l. key (at r) ≼ (z ++ l)) (sym g.laid ∙ laid) (listed_at n other g.long) (least (at other) g.valid));
    }

  pub first_exists : (old : List ℕ) × First N d bs old
  first_exists = let (r, valid, least) = smallest_key n key key_local in (listed n (at r), first_found r valid least)

-- ---- lists as sequences

pub at_most_list : (n : ℕ) (xs ys : List ℕ) → length xs ≡ n → length ys ≡ n → AtMost n (at xs) (at ys) → xs ≼ ys
at_most_list n [] ys l m a = ends
at_most_list zero (x ∷ xs) ys l m a = absurd (suc-ne-zero (length xs) l)
at_most_list (suc n) (x ∷ xs) [] l m a = absurd (suc-ne-zero n (sym m))
at_most_list (suc n) (x ∷ xs) (y ∷ ys) l m a = go a (at_most_list n xs ys (suc_inj l) (suc_inj m))
  where
    first_differ : (AtMost n (at xs) (at ys) → xs ≼ ys) → (k : ℕ) → k < suc n → Agree k (at (x ∷ xs)) (at (y ∷ ys)) → at (x ∷ xs) k < at (y ∷ ys) k → (x ∷ xs) ≼ (y ∷ ys)
    first_differ rest zero low agree h = less h
    first_differ rest (suc k) low agree h =
        same (agree zero (zero-lt-suc k)) (rest (inl record { place = k; low = omega arith; agree = λ i m. agree (suc i) (omega arith); less = h }))

    go : AtMost (suc n) (at (x ∷ xs)) (at (y ∷ ys)) → (AtMost n (at xs) (at ys) → xs ≼ ys) → (x ∷ xs) ≼ (y ∷ ys)
    go (inl b) rest = first_differ rest b.place b.low b.agree b.less
    go (inr a) rest = same (a zero (zero-lt-suc n)) (rest (inr (λ i h. a (suc i) (omega arith))))
