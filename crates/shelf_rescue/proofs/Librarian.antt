-- What a librarian may rely on, of every answer that the promise of `rescue` allows. Assumes nothing.
use Rattle.std.specs.Prelude.{Result, Ok, Err}
use mathlib.Core.List.{List, ◌++◌}
use mathlib.Core.Logic.{◌⊎◌, ◌≢◌}
use mathlib.Core.Path.{◌≡◌, refl, sym, ap, ap₂, ◌∙◌, subst, subst₂}
use Prim.Native.Nat.{ℕ, suc, ◌+◌, ◌-◌, ◌*◌, ◌≤◌, ◌<◌}
use native.Mathlib.Decide.{dec_lt}
use native.Mathlib.Nat.{le_refl, mul-le-mul_left}
use native.Mathlib.Omega.{arith}
use lib.ListN.{length, get_or, take, drop, replicate, get_or-append}
use lib.Seq.{take_at, drop_at}
use Rattle.cd.specs.Refusals.{number_of}
use Rattle.cd.specs.declared.CdError.{CdError}
use Rattle.filing.specs.Bytes.{written}
use Rattle.filing.specs.Counts.{count}
use Rattle.filing.specs.Records.{record_length}
use Rattle.filing.proofs.Bytes.{written_front}
use Rattle.readback.specs.ReadBack.{wrong_length, no_diagram, not_smallest}
use Rattle.shelf.specs.Checks.{Checks, right}
use Rattle.shelf.specs.Shelves.{place_at, Shelf}
use Rattle.shelf.proofs.Once.{checks_once}
use Rattle.shelf.proofs.Outcomes.{checked_right}
use Rattle.shelf.proofs.Places.{place_in_front, place_behind, place_length}
use Rattle.shelf_rescue.specs.Damage.{DamagedAt}
use Rattle.shelf_rescue.specs.Rescues.{Cut, is_kept, last_copied, copied, Mark, kept, out_of_order, unread, Marked, Rescues, short, rescued}
use Rattle.shelf_rescue.specs.declared.Rescued.{Rescued}
use Rattle.shelf_rescue.proofs.Copies.{copied_shelf, copied_length, marks_0, all_copied, all_counted}
use Rattle.shelf_rescue.proofs.Marks.{mark_elsewhere}
use Rattle.shelf_rescue.proofs.Once.{cut_once, not_short}

-- ---- what was written

-- what is known of a file of n places where nothing was refused
record Known (N : ℕ) (file out marks out' marks' : List ℕ) (v : Rescued) (n : ℕ) : Type 0 where
  ms : List ℕ
  marked : Marked N file n ms
  counted : v.kept ≡ count (is_kept ms) n
  out_holds : out' ≡ written 0 (copied (record_length N) file ms n) out
  marks_hold : marks' ≡ written 0 ms marks

module _ {N : ℕ} {file out marks out' marks' : List ℕ} {r : Result Rescued CdError} (a : Rescues N file out marks out' marks' r) where
  -- A REFUSAL LEAVES BOTH BUFFERS
  pub refused_untouched : {e : CdError} → r ≡ Err e → (out' ≡ out) × (marks' ≡ marks)
  refused_untouched refusal = go a
    where
      go : Rescues N file out marks out' marks' r → (out' ≡ out) × (marks' ≡ marks)
      go (short c s h p q) = (p, q)
      go (rescued c l m s h p q) = let z = sym h ∙ refusal in cc

  module _ {v : Rescued} (ok : r ≡ Ok v) {n t : ℕ} (c : Cut N file n t) where
    known : Known N file out marks out' marks' v n
    known = go a
      where
        go : Rescues N file out marks out' marks' r → Known N file out marks out' marks' v n
        go (short d s h p q) = let z = sym h ∙ ok in cc
        go (rescued {n = m} {ms = ms} d l k s h p q) =
            let z = sym ok ∙ h in
            let total : v.kept ≡ count (is_kept ms) m = cc in
            let same = (cut_once d c).0 in
            record {
              ms = ms;
              marked = subst (λ i. Marked N file i ms) same s;
              counted = total ∙ ap (count (is_kept ms)) same;
              out_holds = p ∙ ap (λ i. written 0 (copied (record_length N) file ms i) out) same;
              marks_hold = q;
            }

    abbrev copies : List ℕ
    copies = copied (record_length N) file known.ms n

    copies_length : length copies ≡ record_length N * v.kept
    copies_length = copied_length known.marked known.counted

    out_front : out' ≡ copies ++ drop (length copies) out
    out_front = known.out_holds ∙ written_front copies out

    marks_front : marks' ≡ known.ms ++ drop (length known.ms) marks
    marks_front = known.marks_hold ∙ written_front known.ms marks

    front_copies : take (record_length N * v.kept) out' ≡ copies
    front_copies = ap (take (record_length N * v.kept)) out_front ∙ take_at copies (drop (length copies) out) (record_length N * v.kept) copies_length

    front_shelf : Shelf N (take (record_length N * v.kept) out') v.kept
    front_shelf = subst₂ (Shelf N) (sym front_copies) (sym known.counted) (copied_shelf known.marked n (le_refl n)).shelf

    -- BYTES PAST THE KEPT RECORDS, AND PAST THE LAST PLACE'S MARK, STAY
    pub rest_kept : (drop (record_length N * v.kept) out' ≡ drop (record_length N * v.kept) out) × (drop n marks' ≡ drop n marks)
    rest_kept = (
      ap (drop (record_length N * v.kept)) out_front ∙ drop_at copies (drop (length copies) out) (record_length N * v.kept) copies_length ∙ ap (λ k. drop k out) copies_length,
      ap (drop n) marks_front ∙ drop_at known.ms (drop (length known.ms) marks) n known.marked.one_each ∙ ap (λ k. drop k marks) known.marked.one_each,
    )

    -- the mark of place j
    mark_there : (j : ℕ) → j < n → get_or marks' j 0 ≡ get_or known.ms j 0
    mark_there j h = ap (λ z. get_or z j 0) marks_front ∙ get_or-append known.ms (drop (length known.ms) marks) 0 j (omega (arith, known.marked.one_each))

  -- THE RESULT PASSES THE SHELF CHECK
  pub rescue_passes : {v : Rescued} → r ≡ Ok v → {d : Result ℕ CdError} → Checks N (take (record_length N * v.kept) out') d → d ≡ Ok v.kept
  rescue_passes {v} ok check = checks_once check (right (go a) refl)
    where
      go : Rescues N file out marks out' marks' r → Shelf N (take (record_length N * v.kept) out') v.kept
      go (short d s h p q) = let z = sym h ∙ ok in cc
      go (rescued c l k s h p q) = front_shelf ok c

-- ---- every mark is 0, 1, 14 or 22

pub data IsMark : ℕ → Type 0 where
  is_0 : IsMark 0
  is_1 : IsMark 1
  is_14 : IsMark 14
  is_22 : IsMark 22

-- 13 is no mark, since a place has a record's length
is_mark : {N : ℕ} {last x : List ℕ} {m : ℕ} → length x ≡ record_length N → Mark N last x m → IsMark m
unfolding number_of
is_mark e (kept r h) = is_0
is_mark e (out_of_order r h) = is_1
is_mark e (unread (wrong_length ne)) = absurd (ne e)
is_mark e (unread (no_diagram h ne)) = is_14
is_mark e (unread (not_smallest d ne)) = is_22

module _ {N : ℕ} {file out marks out' marks' : List ℕ} {r : Result Rescued CdError} {v : Rescued} (a : Rescues N file out marks out' marks' r) (ok : r ≡ Ok v)
    {n t : ℕ} (c : Cut N file n t) where
  pub marks_known : (j : ℕ) → j < n → IsMark (get_or marks' j 0)
  marks_known j h =
      let fits : record_length N * suc j ≤ record_length N * n = mul-le-mul_left (record_length N) h in
      subst IsMark (sym (mark_there a ok c j h)) (is_mark (place_length (record_length N) file j (omega (arith, c.long))) ((known a ok c).marked.each j h))

-- ---- A FILE THAT ALREADY PASSED COMES OUT UNCHANGED WITH EVERY PLACE KEPT

-- all n places were kept, there was no tail, and both buffers hold nothing new past them
pub record Intact (file : List ℕ) (n : ℕ) (out marks out' marks' : List ℕ) (r : Result Rescued CdError) : Type 0 where
  pub answer : r ≡ Ok (record { kept = n; tail = 0 })
  pub bytes : out' ≡ file ++ drop (length file) out
  pub all_kept : marks' ≡ replicate n 0 ++ drop n marks

pub shelf_intact : {N : ℕ} {file out marks out' marks' : List ℕ} {r : Result Rescued CdError} {d : Result ℕ CdError} {p : ℕ} → Checks N file d → d ≡ Ok p
    → length file ≤ length out → p ≤ length marks → Rescues N file out marks out' marks' r → Intact file p out marks out' marks' r
shelf_intact {N} {file} {out} {marks} {out'} {marks'} {r} {p = p} check ok fits room a = go a
  where
    shelf : Shelf N file p
    shelf = checked_right check ok

    cut : Cut N file p 0
    cut = record { long = shelf.whole ∙ omega arith; few = omega arith }

    go : Rescues N file out marks out' marks' r → Intact file p out marks out' marks' r
    go (short c s h e f) = absurd (not_short out marks c cut s fits room)
    go (rescued {n = n} {ms = ms} c l k s h e f) =
        let (places, tails) = cut_once c cut in
        let t = subst (λ i. Marked N file i ms) places s in
        record {
          answer = h ∙ ap₂ (λ i j. Ok (record { kept = count (is_kept ms) i; tail = j })) places tails ∙ ap (λ i. Ok (record { kept = i; tail = 0 })) (all_counted shelf t);
          bytes = e ∙ ap (λ i. written 0 (copied (record_length N) file ms i) out) places ∙ ap (λ z. written 0 z out) (all_copied shelf t) ∙ written_front file out;
          all_kept = f ∙ written_front ms marks ∙ ap₂ (λ z i. z ++ drop i marks) (marks_0 shelf t) t.one_each;
        }

-- ---- BYTES DAMAGED INSIDE ONE PLACE NEVER MAKE ANOTHER UNREADABLE

undamaged : (w : ℕ) (l m : List ℕ) (i j : ℕ) → DamagedAt w i l m → w * i ≤ length l → j ≢ i → place_at w m j ≡ place_at w l j
undamaged w l m i j d fits ne = go (dec_lt j i)
  where
    behind : (z : List ℕ) → i < j → place_at w z j ≡ place_at w (drop (w * suc i) z) (j - suc i)
    behind z g = let e : j ≡ suc i + (j - suc i) = omega arith in ap (place_at w z) e ∙ place_behind w z (suc i) (j - suc i)

    go : Dec (j < i) → place_at w m j ≡ place_at w l j
    go (yes b) =
        sym (place_in_front w m i j b (omega (arith, d.same_length))) ∙ ap (λ z. place_at w z j) d.before ∙ place_in_front w l i j b (omega arith)
    go (no b) =
        let g : i < j = omega arith in
        behind m g ∙ ap (λ z. place_at w z (j - suc i)) d.behind ∙ sym (behind l g)

-- a file of n places and the same after damage inside place i, or inside its tail where i is n, each rescued into any buffers: the mark of any other place stays what it was,
-- or says in both that it can be read
pub damage_stays : {N : ℕ} {file damaged out marks out' marks' other-out other-marks other-out' other-marks' : List ℕ} {r q : Result Rescued CdError} {v u : Rescued}
    → Rescues N file out marks out' marks' r → r ≡ Ok v → Rescues N damaged other-out other-marks other-out' other-marks' q → q ≡ Ok u
    → {n t i : ℕ} → Cut N file n t → i ≤ n → DamagedAt (record_length N) i file damaged → (j : ℕ) → j < n → j ≢ i
    → ((get_or marks' j 0 ≤ 1) × (get_or other-marks' j 0 ≤ 1)) ⊎ (get_or marks' j 0 ≡ get_or other-marks' j 0)
damage_stays {N} {file} {damaged} a ok b sure {n} {t} {i} c hi d j h ne =
    let cut : Cut N damaged n t = record { long = d.same_length ∙ c.long; few = c.few } in
    let fits : record_length N * i ≤ record_length N * n = mul-le-mul_left (record_length N) hi in
    let same = undamaged (record_length N) file damaged i j d (omega (arith, c.long)) ne in
    let ms = (known b sure cut).ms in
    let mark = subst (λ z. Mark N (last_copied (record_length N) damaged ms j) z (get_or ms j 0)) same ((known b sure cut).marked.each j h) in
    subst₂ (λ x y. ((x ≤ 1) × (y ≤ 1)) ⊎ (x ≡ y)) (sym (mark_there a ok c j h)) (sym (mark_there b sure cut j h)) (mark_elsewhere ((known a ok c).marked.each j h) mark)
