-- What a rescue has saved of the places it has passed stands in the buffers, and so it does after one place more, copied or passed over. Assumes nothing.
use Rattle.std.specs.Prelude.{Ok}
use mathlib.Core.List.{List, [], ◌∷◌, ◌++◌, append-nil}
use mathlib.Core.Logic.{◌≢◌}
use mathlib.Core.Path.{◌≡◌, refl, sym, ap, ◌∙◌, subst}
use Prim.Native.Nat.{ℕ, suc, ◌+◌, ◌*◌, ◌≤◌, ◌<◌}
use native.Mathlib.Nat.{zero-add, add-zero}
use native.Mathlib.Numerals.{add-one}
use native.Mathlib.Omega.{arith}
use lib.Dec.{eqb}
use lib.ListN.{length, set}
use borrow.Author.Tests.{eq-eqb, ne_eqb}
use Rattle.float.specs.Pick.{pick}
use Rattle.filing.specs.Bytes.{blocks, written}
use Rattle.filing.specs.Counts.{one, sum, count}
use Rattle.filing.specs.Records.{record_length}
use Rattle.filing.proofs.Bytes.{written_nil, written_byte, written_then}
use Rattle.shelf.specs.Shelves.{place_at}
use Rattle.shelf_rescue.specs.Rescues.{Cut, is_kept, last_copied, copied, Mark, Marked, Rescues, rescued}
use Rattle.shelf_rescue.proofs.Copies.{copied_length}
use Rattle.shelf_rescue.proofs.Marks.{marked_none, marked_more, count_more, last_more, copied_more}

-- after i places: the buffers hold what is copied and the marks, and `last` is the last record copied
pub record Saved (N : ℕ) (file out₀ marks₀ : List ℕ) (i kept : ℕ) (last out marks : List ℕ) : Type 0 where
  pub ms : List ℕ
  pub marked : Marked N file i ms
  pub counted : kept ≡ count (is_kept ms) i
  pub copied_last : last ≡ last_copied (record_length N) file ms i
  pub out_holds : out ≡ written 0 (copied (record_length N) file ms i) out₀
  pub marks_hold : marks ≡ written 0 ms marks₀

pub saved_none : (N : ℕ) (file out marks : List ℕ) → Saved N file out marks 0 0 [] out marks
unfolding sum last_copied blocks
saved_none N file out marks = record {
  ms = [];
  marked = marked_none;
  counted = refl;
  copied_last = refl;
  out_holds = sym (written_nil 0 out);
  marks_hold = sym (written_nil 0 marks);
}

module _ {N : ℕ} {file out₀ marks₀ : List ℕ} {i kept : ℕ} {last out marks : List ℕ} (s : Saved N file out₀ marks₀ i kept last out marks) where
  -- ---- one place more

  module _ {m : ℕ} (same_length : length marks ≡ length marks₀) (room : i < length marks₀) (mark : Mark N last (place_at (record_length N) file i) m) where
    abbrev next : List ℕ
    next = s.ms ++ (m ∷ [])

    next_marked : Marked N file (suc i) next
    next_marked = marked_more s.marked (subst (λ z. Mark N z (place_at (record_length N) file i) m) s.copied_last mark)

    next_marks : set marks i m ≡ written 0 next marks₀
    next_marks =
        let e : 0 + length s.ms ≡ i = zero-add (length s.ms) ∙ s.marked.one_each in
        written_byte i m marks (omega arith) ∙ ap (written i (m ∷ [])) s.marks_hold
        ∙ ap (λ k. written k (m ∷ []) (written 0 s.ms marks₀)) (sym e) ∙ written_then 0 s.ms (m ∷ []) marks₀ (omega (arith, s.marked.one_each))

    next_count : kept + one (eqb m 0) ≡ count (is_kept next) (suc i)
    next_count = ap (λ k. k + one (eqb m 0)) s.counted ∙ sym (count_more s.ms s.marked.one_each m)

    next_last : pick (eqb m 0) (place_at (record_length N) file i) (last_copied (record_length N) file s.ms i) ≡ last_copied (record_length N) file next (suc i)
    next_last = sym (last_more s.ms s.marked.one_each m (record_length N) file)

    next_copied : copied (record_length N) file s.ms i ++ pick (eqb m 0) (place_at (record_length N) file i) [] ≡ copied (record_length N) file next (suc i)
    next_copied = sym (copied_more s.ms s.marked.one_each m (record_length N) file)

    pub saved_copied : {out' : List ℕ} → record_length N * kept ≤ length out₀ → m ≡ 0 → out' ≡ written (record_length N * kept) (place_at (record_length N) file i) out
        → Saved N file out₀ marks₀ (i + 1) (kept + 1) (place_at (record_length N) file i) out' (set marks i m)
    saved_copied {out'} h z w = rw (add-one i) record {
      ms = next;
      marked = next_marked;
      counted = rw (eq-eqb m 0 z) at next_count;
      copied_last = rw (eq-eqb m 0 z) at next_last;
      out_holds = stored;
      marks_hold = next_marks;
    }
      where
        stored : out' ≡ written 0 (copied (record_length N) file next (suc i)) out₀
        stored =
            let long = copied_length s.marked s.counted in
            let e : 0 + length (copied (record_length N) file s.ms i) ≡ record_length N * kept = zero-add _ ∙ long in
            w ∙ ap (written (record_length N * kept) (place_at (record_length N) file i)) s.out_holds
            ∙ ap (λ k. written k (place_at (record_length N) file i) (written 0 (copied (record_length N) file s.ms i) out₀)) (sym e)
            ∙ written_then 0 (copied (record_length N) file s.ms i) (place_at (record_length N) file i) out₀ (omega (arith, long))
            ∙ ap (λ z. written 0 z out₀) (rw (eq-eqb m 0 z) at next_copied)

    pub saved_passed : m ≢ 0 → Saved N file out₀ marks₀ (i + 1) kept last out (set marks i m)
    saved_passed ne = rw (add-one i) record {
      ms = next;
      marked = next_marked;
      counted = sym (add-zero kept) ∙ rw (ne_eqb m 0 ne) at next_count;
      copied_last = s.copied_last ∙ rw (ne_eqb m 0 ne) at next_last;
      out_holds = s.out_holds ∙ ap (λ z. written 0 z out₀) (sym (append-nil _) ∙ rw (ne_eqb m 0 ne) at next_copied);
      marks_hold = next_marks;
    }

  pub saved_all : {t : ℕ} → Cut N file i t → length file ≤ length out₀ → i ≤ length marks₀ → Rescues N file out₀ marks₀ out marks (Ok (record { kept = kept; tail = t }))
  saved_all {t} c h few = rescued c h few s.marked (ap (λ k. Ok (record { kept = k; tail = t })) s.counted) s.out_holds s.marks_hold
