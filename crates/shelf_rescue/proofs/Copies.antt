-- What is copied is a shelf, by recursion on the places: a record greater than the last one copied is greater than all that are copied, and stands behind them. In a
-- shelf every place is greater than whichever was copied before it, so that none is passed over. Assumes nothing.
use mathlib.Core.Bool.{Bool, true, false}
use mathlib.Core.List.{List, [], ◌++◌, append-nil}
use mathlib.Core.Path.{◌≡◌, refl, sym, ap, ◌∙◌, subst}
use Prim.Native.Nat.{ℕ, zero, suc, ◌+◌, ◌*◌, ◌≤◌, ◌<◌}
use native.Mathlib.Nat.{add-zero, le_refl, not-suc-le-zero}
use native.Mathlib.Numerals.{add-one}
use native.Mathlib.Omega.{arith}
use lib.Dec.{eqb}
use lib.ListN.{length, get_or, replicate, length-replicate, get_or-replicate}
use lib.Seq.{take_all, ext_get_or}
use borrow.Author.Tests.{eqb-true}
use Rattle.float.specs.Pick.{pick}
use Rattle.filing.specs.Bytes.{◌≼◌, blocks}
use Rattle.filing.specs.Counts.{one, sum, count}
use Rattle.filing.specs.Readable.{Readable}
use Rattle.filing.specs.Records.{record_length}
use Rattle.filing.proofs.Bytes.{one_more, blocks_same}
use Rattle.filing.proofs.Order.{≼_refl}
use Rattle.filing.proofs.Sums.{count_all}
use Rattle.records.proofs.Compared.{nothing_below}
use Rattle.shelf.specs.Finds.{Sound}
use Rattle.shelf.specs.Shelves.{◌≺◌, place_at, Shelf, Absent, inserted}
use Rattle.shelf.proofs.Adding.{added_passes, new_present, old_before}
use Rattle.shelf.proofs.Places.{places_end_to_end, inserted_end}
use Rattle.shelf.proofs.Rising.{≺-≼, ≼-≺_trans, rising}
use Rattle.shelf.proofs.Tested.{readable_length, refused_unreadable}
use Rattle.shelf_rescue.specs.Rescues.{is_kept, last_copied, copied, Mark, kept, out_of_order, unread, Marked}
use Rattle.shelf_rescue.proofs.Marks.{kept_only}

-- ---- WHAT IS COPIED IS A SHELF

-- a shelf, no record of which is greater than `last`
pub record ShelfUpTo (N : ℕ) (l : List ℕ) (n : ℕ) (last : List ℕ) : Type 0 where
  pub shelf : Shelf N l n
  pub up_to : (i : ℕ) → i < n → place_at (record_length N) l i ≼ last

no_places : {N : ℕ} → ShelfUpTo N [] 0 []
no_places = record { shelf = record { whole = omega arith; right = λ i h. absurd (not-suc-le-zero h) }; up_to = λ i h. absurd (not-suc-le-zero h) }

module _ {N : ℕ} {l : List ℕ} {n : ℕ} {last x : List ℕ} (s : ShelfUpTo N l n last) (readable : Readable N x) (greater : last ≺ x) where
  sound : Sound N l x n
  sound = record { readable = readable; shelf = s.shelf }

  at_end : Absent N l n x n
  at_end = record { inside = le_refl n; before = λ i h. ≼-≺_trans (s.up_to i h) greater; after = λ i h k. absurd (omega arith) }

  grown : ShelfUpTo N (inserted (record_length N) l n x) (suc n) x
  grown = record { shelf = added_passes sound at_end; up_to = one_more _ earlier newest }
    where
      earlier : (i : ℕ) → i < n → place_at (record_length N) (inserted (record_length N) l n x) i ≼ x
      earlier i h = subst (λ z. z ≼ x) (sym (old_before sound at_end h (record { inside = h; here = refl })).here) (≺-≼ _ x (at_end.before i h))

      newest : place_at (record_length N) (inserted (record_length N) l n x) n ≼ x
      newest = subst (λ z. z ≼ x) (sym (new_present sound at_end).here) (≼_refl x)

  one_behind : ShelfUpTo N (l ++ x) (suc n) x
  one_behind = subst (λ z. ShelfUpTo N z (suc n) x) (inserted_end (record_length N) l n x s.shelf.whole) grown

by_mark : {N : ℕ} {l last x : List ℕ} {n : ℕ} (m : ℕ) (b : Bool) → eqb m 0 ≡ b → Mark N last x m → ShelfUpTo N l n last
    → ShelfUpTo N (l ++ pick b x []) (n + one b) (pick b x last)
by_mark {n = n} m true e k s = let (r, h) = kept_only k (eqb-true m 0 e) in rw (add-one n) (one_behind s r h)
by_mark {l = l} {n = n} m false e k s = rw (append-nil l, add-zero n) s

pub copied_shelf : {N : ℕ} {l : List ℕ} {n : ℕ} {ms : List ℕ} → Marked N l n ms → (i : ℕ) → i ≤ n
    → ShelfUpTo N (copied (record_length N) l ms i) (count (is_kept ms) i) (last_copied (record_length N) l ms i)
unfolding blocks sum last_copied
copied_shelf s zero h = no_places
copied_shelf {ms = ms} s (suc i) h = by_mark (get_or ms i 0) (is_kept ms i) refl (s.each i h) (copied_shelf s i (omega arith))

pub copied_length : {N : ℕ} {l : List ℕ} {n k : ℕ} {ms : List ℕ} → Marked N l n ms → k ≡ count (is_kept ms) n → length (copied (record_length N) l ms n) ≡ record_length N * k
copied_length {N} {n = n} s e = (copied_shelf s n (le_refl n)).shelf.whole ∙ ap (λ i. record_length N * i) (sym e)

-- ---- OF A SHELF EVERY PLACE IS KEPT

-- a record is greater than no bytes
pub nothing_less : {N : ℕ} {x : List ℕ} → Readable N x → [] ≺ x
nothing_less r h = omega (arith, readable_length r, nothing_below h refl)

module _ {N : ℕ} {l : List ℕ} {n : ℕ} (s : Shelf N l n) where
  abbrev place : ℕ → List ℕ
  place i = place_at (record_length N) l i

  last_below : (ms : List ℕ) (i j : ℕ) → i ≤ j → j < n → last_copied (record_length N) l ms i ≺ place j
  unfolding last_copied
  last_below ms zero j h k = nothing_less (s.right j k).readable
  last_below ms (suc i) j h k = go (is_kept ms i) (last_below ms i j (omega arith) k)
    where
      go : (b : Bool) → last_copied (record_length N) l ms i ≺ place j → pick b (place i) (last_copied (record_length N) l ms i) ≺ place j
      go true e = rising s.right i j h k
      go false e = e

  module _ {ms : List ℕ} (t : Marked N l n ms) where
    mark_0 : (i : ℕ) → i < n → get_or ms i 0 ≡ 0
    mark_0 i h = go (t.each i h)
      where
        go : {m : ℕ} → Mark N (last_copied (record_length N) l ms i) (place i) m → m ≡ 0
        go (kept r k) = refl
        go (out_of_order r k) = absurd (last_below ms i i (le_refl i) h k)
        go (unread b) = absurd (refused_unreadable b (s.right i h).readable)

    pub marks_0 : ms ≡ replicate n 0
    marks_0 = ext_get_or 0 ms (replicate n 0) (t.one_each ∙ sym (length-replicate n 0)) (λ i h. let k : i < n = omega (arith, t.one_each) in mark_0 i k ∙ sym (get_or-replicate n i 0 0 k))

    pub all_copied : copied (record_length N) l ms n ≡ l
    all_copied =
        blocks_same _ _ n (λ i h. ap (λ m. pick (eqb m 0) (place i) []) (mark_0 i h)) ∙ places_end_to_end (record_length N) l n
        ∙ take_all (record_length N * n) l (omega (arith, s.whole))

    pub all_counted : count (is_kept ms) n ≡ n
    all_counted = count_all (is_kept ms) n (λ i h. ap (λ m. eqb m 0) (mark_0 i h))
