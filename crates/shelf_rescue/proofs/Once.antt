-- The promise of `rescue` leaves one answer, and of each buffer one content: a file has one number of places and one tail, and its places have one list of marks, which
-- tells what is copied. Assumes nothing.
use Rattle.std.specs.Prelude.{Result, Ok}
use mathlib.Core.List.{List}
use mathlib.Core.Logic.{◌⊎◌, inl, inr}
use mathlib.Core.Path.{◌≡◌, sym, ap, ap₂, ◌∙◌, subst}
use Prim.Native.Nat.{ℕ, ◌+◌, ◌*◌, ◌/◌, ◌%◌, ◌≤◌, ◌<◌}
use native.Mathlib.Omega.{arith}
use lib.Arith.{digits_div, digits_mod}
use lib.ListN.{length}
use Rattle.cd.specs.declared.CdError.{CdError}
use Rattle.filing.specs.Bytes.{written}
use Rattle.filing.specs.Counts.{count}
use Rattle.filing.specs.Records.{record_length}
use Rattle.shelf_rescue.specs.Rescues.{Cut, is_kept, copied, Marked, Rescues, short, rescued}
use Rattle.shelf_rescue.specs.declared.Rescued.{Rescued}
use Rattle.shelf_rescue.proofs.Marks.{marked_once}

same_rest : (w : ℕ) {n m t u : ℕ} → w * n + t ≡ w * m + u → t < w → u < w → (n ≡ m) × (t ≡ u)
same_rest w {n} {m} {t} {u} e h k =
    let f : n * w + t ≡ m * w + u = omega arith in
    (sym (digits_div n h) ∙ ap (λ z. z / w) f ∙ digits_div m k, sym (digits_mod n h) ∙ ap (λ z. z % w) f ∙ digits_mod m k)

module _ {N : ℕ} {file : List ℕ} where
  -- A FILE HAS ONE NUMBER OF PLACES AND ONE TAIL
  pub cut_once : {n m t u : ℕ} → Cut N file n t → Cut N file m u → (n ≡ m) × (t ≡ u)
  cut_once c d = same_rest (record_length N) (sym c.long ∙ d.long) c.few d.few

  pub not_short : (out marks : List ℕ) {n m t u : ℕ} → Cut N file n t → Cut N file m u → (length out < length file) ⊎ (length marks < n)
      → length file ≤ length out → m ≤ length marks → ⊥
  not_short out marks c d (inl a) h k = omega arith
  not_short out marks c d (inr a) h k = omega (arith, (cut_once c d).0)

  module _ {out marks : List ℕ} where
    pub rescues_once : {o o' m m' : List ℕ} {r r' : Result Rescued CdError} → Rescues N file out marks o m r → Rescues N file out marks o' m' r' → (r ≡ r') × (o ≡ o') × (m ≡ m')
    rescues_once (short c s h e f) (short d t k p q) = (h ∙ sym k, e ∙ sym p, f ∙ sym q)
    rescues_once (short c s h e f) (rescued d a b t k p q) = absurd (not_short out marks c d s a b)
    rescues_once (rescued c a b s h e f) (short d t k p q) = absurd (not_short out marks d c t a b)
    rescues_once (rescued {ms = ms} c a b s h e f) (rescued d x y t k p q) =
        let (places, tails) = cut_once c d in
        let same = marked_once (subst (λ i. Marked N file i ms) places s) t in
        let counts = ap₂ (λ i z. count (is_kept z) i) places same in (
          h ∙ ap₂ (λ i j. Ok (record { kept = i; tail = j })) counts tails ∙ sym k,
          e ∙ ap₂ (λ i z. written 0 (copied (record_length N) file z i) out) places same ∙ sym p,
          f ∙ ap (λ z. written 0 z marks) same ∙ sym q,
        )
