-- On a shelf every place before the one where bisection ends is less than the record, and none from there on is, because every place is greater than each before it:
-- so what bisection finds is what the shelf holds. Assumes nothing.
use Rattle.std.specs.Prelude.{Result}
use mathlib.Core.List.{List}
use mathlib.Core.Path.{◌≡◌, sym, ◌∙◌, subst}
use Prim.Native.Nat.{ℕ, suc, ◌≤◌, ◌<◌}
use native.Mathlib.Nat.{le_refl}
use native.Mathlib.Omega.{arith}
use Rattle.cd.specs.declared.CdError.{CdError}
use Rattle.filing.specs.Bytes.{◌≼◌}
use Rattle.filing.specs.Records.{record_length}
use Rattle.filing.proofs.Order.{≼_antisym, ≼_trans}
use Rattle.shelf.specs.Bisects.{middle, Bisection, none_left, in_front, behind, Bisects, unread, no_multiple, met, missed}
use Rattle.shelf.specs.Finds.{Finds}
use Rattle.shelf.specs.Finds as finds
use Rattle.shelf.specs.Shelves.{◌≺◌, place_at, RightTo, Shelf, Present, Absent}
use Rattle.shelf.specs.declared.Found.{Found}
use Rattle.shelf.proofs.Once.{places_once}
use Rattle.shelf.proofs.Rising.{≼-≺_trans, ≺-≼_trans, no_fall}

-- ---- where bisection ends

-- the places below low are less than x, and those from high on are not
record Narrows (N : ℕ) (l : List ℕ) (n : ℕ) (x : List ℕ) (low high : ℕ) : Type 0 where
  ordered : low ≤ high
  inside : high ≤ n
  before : (i : ℕ) → i < low → place_at (record_length N) l i ≺ x
  behind : (i : ℕ) → high ≤ i → i < n → x ≼ place_at (record_length N) l i

module _ {N : ℕ} {l : List ℕ} {n : ℕ} {x : List ℕ} (all : RightTo N l n) where
  narrow_front : {low high : ℕ} (m : ℕ) → low ≤ m → m < high → x ≼ place_at (record_length N) l m → Narrows N l n x low high → Narrows N l n x low m
  narrow_front m above under h s = record {
    ordered = above;
    inside = omega (arith, s.inside);
    before = s.before;
    behind = λ i j k. ≼_trans h (no_fall all m i j k);
  }

  narrow_behind : {low high : ℕ} (m : ℕ) → low ≤ m → m < high → place_at (record_length N) l m ≺ x → Narrows N l n x low high → Narrows N l n x (suc m) high
  narrow_behind m above under h s = record {
    ordered = omega arith;
    inside = s.inside;
    before = λ i j. ≼-≺_trans (no_fall all i m (omega arith) (omega (arith, s.inside))) h;
    behind = s.behind;
  }

  narrowed : {low high p : ℕ} → Bisection N l x low high p → Narrows N l n x low high → Narrows N l n x p p
  narrowed {low} {high} (none_left h) s = let e : high ≡ low = omega (arith, s.ordered) in subst (λ t. Narrows N l n x low t) e s
  narrowed {low} {high} (in_front h k b) s = narrowed b (narrow_front (middle low high) (omega arith) (omega arith) k s)
  narrowed {low} {high} (behind h k b) s = narrowed b (narrow_behind (middle low high) (omega arith) (omega arith) k s)

  whole_shelf : Narrows N l n x 0 n
  whole_shelf = record {
    ordered = omega arith;
    inside = omega arith;
    before = λ i h. absurd (omega arith);
    behind = λ i h k. absurd (omega arith);
  }

  -- where the record is not there
  missed_absent : {p : ℕ} → Narrows N l n x p p → (Present N l n x p → ⊥) → Absent N l n x p
  missed_absent {p} s none = record { inside = s.inside; before = s.before; after = λ i h k. ≺-≼_trans (λ le. none (here i h k le)) (no_fall all p i h k) }
    where
      here : (i : ℕ) → p ≤ i → i < n → place_at (record_length N) l p ≼ x → Present N l n x p
      here i h k le = let m : p < n = omega arith in record { inside = m; here = ≼_antisym le (s.behind p (le_refl p) m) }

-- ---- what it finds

module _ {N : ℕ} {file x : List ℕ} {r : Result Found CdError} where
  -- ON A SHELF BISECTION FINDS WHAT `find` ANSWERS
  pub bisects_finds : {n : ℕ} → Shelf N file n → Bisects N file x r → Finds N file x r
  bisects_finds s (unread b h) = finds.refused (finds.unread b) h
  bisects_finds {n} s (no_multiple a ne h) = absurd (ne n s.whole)
  bisects_finds {n} s (met {n = m} {p = p} b here h) =
      let e = places_once N m n (sym b.whole ∙ s.whole) in
      finds.present (record { readable = b.readable; shelf = s }) (subst (λ k. Present N file k x p) e here) h
  bisects_finds {n} s (missed {n = m} {p = p} b none h) =
      let e = places_once N m n (sym b.whole ∙ s.whole) in
      finds.absent (record { readable = b.readable; shelf = s })
      (missed_absent s.right (narrowed s.right (subst (λ k. Bisection N file x 0 k p) e b.ends) (whole_shelf s.right)) (subst (λ k. Present N file k x p → ⊥) e none)) h
