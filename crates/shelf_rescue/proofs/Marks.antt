-- What the marks of places are: numbers of reading are no marks of a record that can be read; marks that are the same so far leave the same records copied; and a place
-- has one mark, so that a file's marks are one list. Assumes nothing.
use mathlib.Core.Bool.{Bool, true, false}
use mathlib.Core.List.{List, [], ◌∷◌, ◌++◌}
use mathlib.Core.Logic.{◌⊎◌, inl, inr}
use mathlib.Core.Path.{◌≡◌, refl, sym, ap, ap₂, ◌∙◌, subst, subst₂}
use Prim.Native.Nat.{ℕ, zero, suc, ◌+◌, ◌≤◌, ◌<◌}
use native.Mathlib.Nat.{le_refl}
use native.Mathlib.Omega.{arith}
use lib.Dec.{eqb}
use lib.ListN.{length, get_or, length-append, get_or-append}
use lib.Seq.{ext_get_or, get_or_at}
use mir.Val.{bool_byte}
use Rattle.float.specs.Pick.{pick}
use Rattle.cd.specs.Arrays.{padded}
use Rattle.cd.specs.Minimal.{Decides}
use Rattle.cd.specs.Refusals.{number_of}
use Rattle.cd.specs.declared.CdError.{CdError}
use Rattle.cd.proofs.Arrays.{get_or_padded}
use Rattle.cd.proofs.Decided.{refutes}
use Rattle.filing.specs.Bytes.{◌≼◌, blocks}
use Rattle.filing.specs.Counts.{one, sum, count}
use Rattle.filing.specs.Readable.{Readable}
use Rattle.filing.specs.Records.{record_length}
use Rattle.filing.proofs.Bytes.{one_more, blocks_same}
use Rattle.filing.proofs.Sums.{sum_local}
use Rattle.parse.specs.Reading.{Refused}
use Rattle.readback.specs.ReadBack.{ReadBack, wrong_length, no_diagram, not_smallest}
use Rattle.readback.proofs.ReadBackLaws.{read_back_once}
use Rattle.shelf.specs.Shelves.{◌≺◌, place_at}
use Rattle.shelf.proofs.Once.{same_refusal}
use Rattle.shelf.proofs.Tested.{refused_unreadable}
use Rattle.shelf_rescue.specs.Rescues.{is_kept, last_copied, copied, Mark, kept, out_of_order, unread, Marked}

-- ---- a mark

-- the first number of a refusal to read a record
pub record Numbered (e : CdError) : Type 0 where
  pub no_mark : 2 ≤ get_or (number_of e) 0 0
  pub byte : get_or (number_of e) 0 0 ≤ 255

pub numbered : {N : ℕ} {x : List ℕ} {e : CdError} → ReadBack N x (Refused e) → Numbered e
unfolding number_of
numbered (wrong_length n) = record { no_mark = omega arith; byte = omega arith }
numbered (no_diagram h n) = record { no_mark = omega arith; byte = omega arith }
numbered (not_smallest d n) = record { no_mark = omega arith; byte = omega arith }

-- as the code holds it
pub first_number : (e : CdError) {figures : List ℕ} → figures ≡ padded 0 4 (number_of e) → get_or figures 0 0 ≡ get_or (number_of e) 0 0
first_number e h = ap (λ z. get_or z 0 0) h ∙ get_or_padded 0 0 4 (number_of e) 0 (omega arith)

module _ {N : ℕ} {x : List ℕ} where
  -- as the code tells it
  pub mark_read : {last : List ℕ} (r : Bool) → Readable N x → Decides (x ≼ last) r → Mark N last x (bool_byte r)
  mark_read true k d = out_of_order k (d.only_when refl)
  mark_read false k d = kept k (refutes d refl)

  pub mark_unread : {last figures : List ℕ} {e : CdError} → ReadBack N x (Refused e) → figures ≡ padded 0 4 (number_of e) → Mark N last x (get_or figures 0 0)
  mark_unread {last} {e = e} b h = subst (Mark N last x) (sym (first_number e h)) (unread b)

  pub kept_only : {last : List ℕ} {m : ℕ} → Mark N last x m → m ≡ 0 → Readable N x × (last ≺ x)
  kept_only (kept r h) e = (r, h)
  kept_only (out_of_order r h) e = absurd (omega arith)
  kept_only (unread b) e = absurd (omega (arith, (numbered b).no_mark))

  same_number : {d e : CdError} → ReadBack N x (Refused d) → ReadBack N x (Refused e) → get_or (number_of d) 0 0 ≡ get_or (number_of e) 0 0
  same_number a b = ap (λ z. get_or (number_of z) 0 0) (same_refusal (read_back_once a b))

  pub mark_once : {last : List ℕ} {a b : ℕ} → Mark N last x a → Mark N last x b → a ≡ b
  mark_once (kept r h) (kept s k) = refl
  mark_once (kept r h) (out_of_order s k) = absurd (h k)
  mark_once (kept r h) (unread b) = absurd (refused_unreadable b r)
  mark_once (out_of_order r h) (kept s k) = absurd (k h)
  mark_once (out_of_order r h) (out_of_order s k) = refl
  mark_once (out_of_order r h) (unread b) = absurd (refused_unreadable b r)
  mark_once (unread a) (kept s k) = absurd (refused_unreadable a s)
  mark_once (unread a) (out_of_order s k) = absurd (refused_unreadable a s)
  mark_once (unread a) (unread b) = same_number a b

  -- whichever record was copied last, both marks say that x can be read, or both say the same
  pub mark_elsewhere : {last other : List ℕ} {a b : ℕ} → Mark N last x a → Mark N other x b → ((a ≤ 1) × (b ≤ 1)) ⊎ (a ≡ b)
  mark_elsewhere (kept r h) (kept s k) = inr refl
  mark_elsewhere (kept r h) (out_of_order s k) = inl (omega arith, omega arith)
  mark_elsewhere (kept r h) (unread b) = absurd (refused_unreadable b r)
  mark_elsewhere (out_of_order r h) (kept s k) = inl (omega arith, omega arith)
  mark_elsewhere (out_of_order r h) (out_of_order s k) = inr refl
  mark_elsewhere (out_of_order r h) (unread b) = absurd (refused_unreadable b r)
  mark_elsewhere (unread a) (kept s k) = absurd (refused_unreadable a s)
  mark_elsewhere (unread a) (out_of_order s k) = absurd (refused_unreadable a s)
  mark_elsewhere (unread a) (unread b) = inr (same_number a b)

-- ---- marks that are the same so far

module _ (w : ℕ) (l ms us : List ℕ) where
  same_last : (i : ℕ) → ((j : ℕ) → j < i → get_or ms j 0 ≡ get_or us j 0) → last_copied w l ms i ≡ last_copied w l us i
  unfolding last_copied
  same_last zero h = refl
  same_last (suc i) h = rw (h i (le_refl (suc i)), same_last i (λ j k. h j (omega arith)))

  same_copied : (n : ℕ) → ((j : ℕ) → j < n → get_or ms j 0 ≡ get_or us j 0) → copied w l ms n ≡ copied w l us n
  same_copied n h = blocks_same _ _ n (λ i k. rw (h i k))

same_count : (ms us : List ℕ) (n : ℕ) → ((j : ℕ) → j < n → get_or ms j 0 ≡ get_or us j 0) → count (is_kept ms) n ≡ count (is_kept us) n
same_count ms us n h = sum_local _ _ n (λ i k. rw (h i k))

-- ---- one place more

module _ (ms : List ℕ) {n : ℕ} (long : length ms ≡ n) (m : ℕ) where
  appended : (j : ℕ) → j < n → get_or (ms ++ (m ∷ [])) j 0 ≡ get_or ms j 0
  appended j h = get_or-append ms (m ∷ []) 0 j (omega arith)

  newest : get_or (ms ++ (m ∷ [])) n 0 ≡ m
  newest = get_or_at ms m [] 0 n long

  pub count_more : count (is_kept (ms ++ (m ∷ []))) (suc n) ≡ count (is_kept ms) n + one (eqb m 0)
  unfolding sum
  count_more = ap₂ (λ z b. z + one (eqb b 0)) (same_count (ms ++ (m ∷ [])) ms n appended) newest

  module _ (w : ℕ) (l : List ℕ) where
    pub last_more : last_copied w l (ms ++ (m ∷ [])) (suc n) ≡ pick (eqb m 0) (place_at w l n) (last_copied w l ms n)
    unfolding last_copied
    last_more = ap₂ (λ b z. pick (eqb b 0) (place_at w l n) z) newest (same_last w l (ms ++ (m ∷ [])) ms n appended)

    pub copied_more : copied w l (ms ++ (m ∷ [])) (suc n) ≡ copied w l ms n ++ pick (eqb m 0) (place_at w l n) []
    unfolding blocks
    copied_more = ap₂ (λ z b. z ++ pick (eqb b 0) (place_at w l n) []) (same_copied w l (ms ++ (m ∷ [])) ms n appended) newest

pub marked_none : {N : ℕ} {l : List ℕ} → Marked N l 0 []
marked_none = record { one_each = refl; each = λ i h. absurd (omega arith) }

pub marked_more : {N : ℕ} {l : List ℕ} {n m : ℕ} {ms : List ℕ} → Marked N l n ms → Mark N (last_copied (record_length N) l ms n) (place_at (record_length N) l n) m
    → Marked N l (suc n) (ms ++ (m ∷ []))
marked_more {N} {l} {n} {m} {ms} s k = record { one_each = length-append ms (m ∷ []) ∙ omega (arith, s.one_each); each = one_more _ earlier latest }
  where
    last : (i : ℕ) → i ≤ n → last_copied (record_length N) l ms i ≡ last_copied (record_length N) l (ms ++ (m ∷ [])) i
    last i h = sym (same_last (record_length N) l (ms ++ (m ∷ [])) ms i (λ j e. appended ms s.one_each m j (omega arith)))

    earlier : (i : ℕ) → i < n → Mark N (last_copied (record_length N) l (ms ++ (m ∷ [])) i) (place_at (record_length N) l i) (get_or (ms ++ (m ∷ [])) i 0)
    earlier i h = subst₂ (λ z b. Mark N z (place_at (record_length N) l i) b) (last i (omega arith)) (sym (appended ms s.one_each m i h)) (s.each i h)

    latest : Mark N (last_copied (record_length N) l (ms ++ (m ∷ [])) n) (place_at (record_length N) l n) (get_or (ms ++ (m ∷ [])) n 0)
    latest = subst₂ (λ z b. Mark N z (place_at (record_length N) l n) b) (last n (le_refl n)) (sym (newest ms s.one_each m)) k

-- ---- A FILE HAS ONE LIST OF MARKS

module _ {N : ℕ} {l : List ℕ} {n : ℕ} {ms us : List ℕ} (s : Marked N l n ms) (t : Marked N l n us) where
  same_marks : (i : ℕ) → i ≤ n → (j : ℕ) → j < i → get_or ms j 0 ≡ get_or us j 0
  same_marks zero k = λ j h. absurd (omega arith)
  same_marks (suc i) k =
      let earlier = same_marks i (omega arith) in
      let e = same_last (record_length N) l ms us i earlier in
      one_more _ earlier (mark_once (subst (λ z. Mark N z (place_at (record_length N) l i) (get_or ms i 0)) e (s.each i k)) (t.each i k))

  pub marked_once : ms ≡ us
  marked_once = ext_get_or 0 ms us (s.one_each ∙ sym t.one_each) (λ j h. same_marks n (le_refl n) j (omega (arith, s.one_each)))
