-- A search depth first, place by place: what goes on from k places has at place k a node that no earlier place has, so the best of those nodes' searches is
-- the best of all. It finds a numbering with the smallest key; with layouts for keys, so every diagram has a record. Assumes nothing.
use mathlib.Core.List.{List}
use mathlib.Core.Logic.{◌≢◌, ◌⊎◌, inl, inr}
use mathlib.Core.Path.{◌≡◌, refl, sym, ◌∙◌}
use Prim.Native.Nat.{ℕ, zero, suc, ◌+◌, ◌≤◌, ◌<◌}
use native.Mathlib.Nat.{not-suc-le-zero, le_refl, le_trans, add-zero}
use native.Mathlib.Omega.{arith}
use lib.ListN.{length, set, length-set}
use lib.Seq.{get_or-set_same, get_or-set_other}
use Rattle.filing.specs.Bytes.{◌≼◌}
use Rattle.filing.specs.Diagrams.{Diagram}
use Rattle.filing.specs.Numberings.{Injects, Numbering, at, plain}
use Rattle.filing.specs.Records.{layout, IsRecord}
use Rattle.filing.proofs.Bytes.{one_more, length_singles, singles_at}
use Rattle.filing.proofs.Layouts.{layout_local}
use Rattle.filing.proofs.Numberings.{Found, find, injects_all}
use Rattle.filing.proofs.Order.{≼_refl, ≼_trans, ≼_total}

-- ---- numberings as lists

-- the first n places of a list number n nodes
pub record IsNumbering (n : ℕ) (p : List ℕ) : Type 0 where
  pub long : n ≤ length p
  pub valid : Numbering n (at p)

pub length_plain : (n : ℕ) → length (plain n) ≡ n
unfolding plain
length_plain n = length_singles (λ i. i) n

pub at_plain : (n i : ℕ) → i < n → at (plain n) i ≡ i
unfolding plain
at_plain n i h = singles_at (λ j. j) n 0 i h

-- also as the first n places of a longer one
pub plain_front : {n m : ℕ} → n ≤ m → IsNumbering n (plain m)
plain_front {n} {m} h = record {
  long = rw (length_plain m) h;
  valid = record {
    within = λ i k. rw (at_plain m i (omega arith)) k;
    apart = λ i j k l e. sym (at_plain m i (omega arith)) ∙ e ∙ at_plain m j (omega arith);
  };
}

-- ---- one place more: v at place k of p

pub put_same : (p : List ℕ) (k v : ℕ) → k < length p → at (set p k v) k ≡ v
put_same p k v h = get_or-set_same p k v 0 h

pub put_below : (p : List ℕ) (k v i : ℕ) → i < k → at (set p k v) i ≡ at p i
put_below p k v i h = get_or-set_other p k i v 0 (omega arith)

-- v is free: none of the first k places has it
put_injects : {n k : ℕ} (p : List ℕ) (v : ℕ) → Injects k n (at p) → k < length p → v < n → ((i : ℕ) → i < k → at p i ≢ v) → Injects (suc k) n (at (set p k v))
put_injects {n} {k} p v a hk hv free =
    record { within = one_more _ (λ i h. rw (put_below p k v i h) (a.within i h)) (rw (put_same p k v hk) hv); apart = apart }
  where
    apart : (i j : ℕ) → i < suc k → j < suc k → at (set p k v) i ≡ at (set p k v) j → i ≡ j
    apart i j h g = one_more (λ x. at (set p k v) x ≡ at (set p k v) j → x ≡ j) low high i h
      where
        low : (x : ℕ) → x < k → at (set p k v) x ≡ at (set p k v) j → x ≡ j
        low x hx = one_more (λ y. at (set p k v) x ≡ at (set p k v) y → x ≡ y)
            (λ y hy e. a.apart x y hx hy (sym (put_below p k v x hx) ∙ e ∙ put_below p k v y hy))
            (λ e. absurd (free x hx (sym (put_below p k v x hx) ∙ e ∙ put_same p k v hk))) j g

        high : at (set p k v) k ≡ at (set p k v) j → k ≡ j
        high = one_more (λ y. at (set p k v) k ≡ at (set p k v) y → k ≡ y)
            (λ y hy e. absurd (free y hy (sym (put_below p k v y hy) ∙ sym e ∙ put_same p k v hk)))
            (λ e. refl) j g

-- ---- what a search has seen to

-- q goes on from the first k places of p
abbrev Extends : ℕ → List ℕ → (ℕ → ℕ) → Type 0
Extends k p q = (i : ℕ) → i < k → q i ≡ at p i

-- z is at most the key of each numbering that goes on from k places of p
abbrev Covers : ℕ → ((ℕ → ℕ) → List ℕ) → ℕ → List ℕ → List ℕ → Type 0
Covers n key k p z = (q : ℕ → ℕ) → Numbering n q → Extends k p q → z ≼ key q

-- from b to r: r is a numbering, no worse than b, and covers what goes on from k places of p
record Improves (n : ℕ) (key : (ℕ → ℕ) → List ℕ) (k : ℕ) (p b r : List ℕ) : Type 0 where
  numbering : IsNumbering n r
  no_worse : key (at r) ≼ key (at b)
  covers : Covers n key k p (key (at r))

-- the key depends on the n places alone
abbrev Local : ℕ → ((ℕ → ℕ) → List ℕ) → Type 0
Local n key = (p q : ℕ → ℕ) → ((i : ℕ) → i < n → p i ≡ q i) → key p ≡ key q

-- every place is taken: p itself is all that goes on from it
covers_leaf : {n k : ℕ} {key : (ℕ → ℕ) → List ℕ} → Local n key → k ≡ n → (p : List ℕ) {z : List ℕ} → z ≼ key (at p) → Covers n key k p z
covers_leaf local e p h q nq x = rw (local q (at p) (λ i l. x i (omega arith))) h

-- z is at most the key of each numbering that goes on from k places of p with a node below v at place k
abbrev Below : ℕ → ((ℕ → ℕ) → List ℕ) → ℕ → List ℕ → ℕ → List ℕ → Type 0
Below n key k p v z = (q : ℕ → ℕ) → Numbering n q → Extends k p q → q k < v → z ≼ key q

-- from b to c, with the nodes below v tried at place k
record Partly (n : ℕ) (key : (ℕ → ℕ) → List ℕ) (k : ℕ) (p b : List ℕ) (v : ℕ) (c : List ℕ) : Type 0 where
  numbering : IsNumbering n c
  no_worse : key (at c) ≼ key (at b)
  below : Below n key k p v (key (at c))

module _ {n : ℕ} {key : (ℕ → ℕ) → List ℕ} {k : ℕ} {p b : List ℕ} where
  improves_worse : Local n key → k ≡ n → IsNumbering n b → key (at b) ≼ key (at p) → Improves n key k p b b
  improves_worse local e h le = record { numbering = h; no_worse = ≼_refl (key (at b)); covers = covers_leaf local e p le }

  improves_better : Local n key → k ≡ n → n ≤ length p → Injects k n (at p) → key (at p) ≼ key (at b) → Improves n key k p b p
  improves_better local e l a ge = record {
    numbering = record { long = l; valid = injects_all e a };
    no_worse = ge;
    covers = covers_leaf local e p (≼_refl (key (at p)));
  }

  partly_start : IsNumbering n b → Partly n key k p b zero b
  partly_start h = record { numbering = h; no_worse = ≼_refl (key (at b)); below = λ q nq x l. absurd (not-suc-le-zero l) }

  -- an earlier place has v
  partly_used : {v : ℕ} {c : List ℕ} → k < n → Found k (at p) v → Partly n key k p b v c → Partly n key k p b (suc v) c
  partly_used {v} {c} hk (i, hi, e) y = record { numbering = y.numbering; no_worse = y.no_worse; below = below }
    where
      below : Below n key k p (suc v) (key (at c))
      below q nq x l = one_more (λ u. q k ≡ u → key (at c) ≼ key q) (λ u m s. y.below q nq x (rw s m))
          (λ s. let w : i ≡ k = nq.apart i k (omega arith) hk (x i hi ∙ e ∙ sym s) in let z : ⊥ = omega arith in absurd z) (q k) l refl

  -- all that goes on with v at place k was searched, from c to r
  partly_free : {v : ℕ} {c r : List ℕ} → k < length p → Improves n key (suc k) (set p k v) c r → Partly n key k p b v c → Partly n key k p b (suc v) r
  partly_free {v} {c} {r} hk i y = record { numbering = i.numbering; no_worse = ≼_trans i.no_worse y.no_worse; below = below }
    where
      below : Below n key k p (suc v) (key (at r))
      below q nq x l = one_more (λ u. q k ≡ u → key (at r) ≼ key q) (λ u m s. ≼_trans i.no_worse (y.below q nq x (rw s m)))
          (λ s. i.covers q nq (one_more _ (λ j h. x j h ∙ sym (put_below p k v j h)) (s ∙ sym (put_same p k v hk)))) (q k) l refl

  partly_done : {v : ℕ} {r : List ℕ} → k < n → n ≤ v → Partly n key k p b v r → Improves n key k p b r
  partly_done hk hv y = record { numbering = y.numbering; no_worse = y.no_worse; covers = λ q nq x. y.below q nq x (le_trans (nq.within k hk) hv) }

-- ---- the search

-- from any best so far, one that covers what goes on with v at place k of p, for each v that is free
abbrev Searches : ℕ → ((ℕ → ℕ) → List ℕ) → ℕ → List ℕ → Type 0
Searches n key k p =
    (v : ℕ) (c : List ℕ) → v < n → ((i : ℕ) → i < k → at p i ≢ v) → IsNumbering n c → (r : List ℕ) × Improves n key (suc k) (set p k v) c r

module _ {n : ℕ} {key : (ℕ → ℕ) → List ℕ} where
  tried : (k : ℕ) (p b : List ℕ) → k < n → k < length p → IsNumbering n b → Searches n key k p → (v : ℕ) → v ≤ n → (c : List ℕ) × Partly n key k p b v c
  tried k p b hk hp h each zero l = (b, partly_start h)
  tried k p b hk hp h each (suc v) l = let (c, y) = tried k p b hk hp h each v (omega arith) in go c y (find k (at p) v)
    where
      go : (c : List ℕ) → Partly n key k p b v c → Found k (at p) v ⊎ ((i : ℕ) → i < k → at p i ≢ v) → (r : List ℕ) × Partly n key k p b (suc v) r
      go c y (inl used) = (c, partly_used hk used y)
      go c y (inr free) = let (r, i) = each v c l free y.numbering in (r, partly_free hp i y)

  -- the first k places of p are taken, m are to be filled; b is the best so far
  searched : Local n key → (m k : ℕ) (p b : List ℕ) → m + k ≡ n → n ≤ length p → Injects k n (at p) → IsNumbering n b → (r : List ℕ) × Improves n key k p b r
  searched local zero k p b e l a h = go (≼_total (key (at b)) (key (at p)))
    where
      go : (key (at b) ≼ key (at p)) ⊎ (key (at p) ≼ key (at b)) → (r : List ℕ) × Improves n key k p b r
      go (inl worse) = (b, improves_worse local (omega arith) h worse)
      go (inr better) = (p, improves_better local (omega arith) l a better)
  searched local (suc m) k p b e l a h =
      let deeper : Searches n key k p = λ v c hv free hc. searched local m (suc k) (set p k v) c (omega arith) (rw (length-set p k v) l) (put_injects p v a (omega arith) hv free) hc in
      let (r, y) = tried k p b (omega arith) (omega arith) h deeper n (le_refl n) in
      (r, partly_done (omega arith) (le_refl n) y)

-- of all numberings one whose key is the smallest
pub smallest_key : (n : ℕ) (key : (ℕ → ℕ) → List ℕ) → Local n key → (r : List ℕ) × Numbering n (at r) × ((q : ℕ → ℕ) → Numbering n q → key (at r) ≼ key q)
smallest_key n key local =
    let first : IsNumbering n (plain n) = plain_front (le_refl n) in
    let none : Injects zero n (at (plain n)) = record { within = λ i h. absurd (not-suc-le-zero h); apart = λ i j h. absurd (not-suc-le-zero h) } in
    let (r, i) = searched local n zero (plain n) (plain n) (add-zero n) first.long none first in
    (r, i.numbering.valid, λ q nq. i.covers q nq (λ j h. absurd (not-suc-le-zero h)))

-- EVERY DIAGRAM HAS A RECORD
pub record_exists : (N : ℕ) (d : Diagram) → (bs : List ℕ) × IsRecord N d bs
record_exists N d =
    let (r, valid, least) = smallest_key d.size (layout N d) (layout_local N d) in
    (layout N d (at r), record { numbering = at r; valid = valid; laid = refl; least = least })
