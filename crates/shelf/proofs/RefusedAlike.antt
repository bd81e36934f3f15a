-- Given a record that can be read, finding and adding refuse a file with 18 or 19 exactly as the check does; and in a file that the check accepts, bisection
-- answers what finding does. Of every answer that the promises allow. Assumes nothing.
use Rattle.std.specs.Prelude.{Result, Ok, Err}
use mathlib.Core.List.{List}
use mathlib.Core.Logic.{◌↔◌}
use mathlib.Core.Path.{◌≡◌, refl, sym, ◌∙◌, subst}
use Prim.Native.Nat.{ℕ}
use native.Mathlib.Omega.{arith}
use Rattle.cd.specs.declared.CdError.{CdError}
use Rattle.cd.specs.declared.CdError.TheVariants.{ShortBuffer, ShelfLength, ShelfPlace, OnShelf}
use Rattle.filing.specs.Readable.{Readable}
use Rattle.shelf.specs.Adds.{Adds}
use Rattle.shelf.specs.Adds as adds
use Rattle.shelf.specs.Bisects.{Bisects}
use Rattle.shelf.specs.Checks.{Wrong, Checks, wrong}
use Rattle.shelf.specs.Finds.{Refuses, unread, unsound, Finds}
use Rattle.shelf.specs.Finds as finds
use Rattle.shelf.specs.declared.Found.{Found}
use Rattle.shelf.proofs.Bisected.{bisects_finds}
use Rattle.shelf.proofs.Once.{checks_once, finds_once, adds_once}
use Rattle.shelf.proofs.Outcomes.{checked_right, checked_wrong, found_refused}
use Rattle.shelf.proofs.Tested.{refused_unreadable}

-- 18, and 19 of any place
pub data OfFile : CdError → Type 0 where
  of_18 : OfFile ShelfLength
  of_19 : {p : ℕ} → OfFile (ShelfPlace p)

not_20 : {e : CdError} {p : ℕ} → OfFile e → OnShelf p ≡ e → ⊥
not_20 of_18 h = let z : ◌≡◌ {A = ℕ} 0 1 = (cc) in omega arith
not_20 of_19 h = let z : ◌≡◌ {A = ℕ} 0 1 = (cc) in omega arith

not_12 : {e : CdError} → OfFile e → ShortBuffer ≡ e → ⊥
not_12 of_18 h = let z : ◌≡◌ {A = ℕ} 0 1 = (cc) in omega arith
not_12 of_19 h = let z : ◌≡◌ {A = ℕ} 0 1 = (cc) in omega arith

module _ {N : ℕ} {file x : List ℕ} {c : Result ℕ CdError} (check : Checks N file c) where
  -- IN A FILE THAT THE CHECK ACCEPTS, BISECTION ANSWERS WHAT FINDING DOES
  pub bisect_as_find : {n : ℕ} {r s : Result Found CdError} → c ≡ Ok n → Finds N file x r → Bisects N file x s → r ≡ s
  bisect_as_find a find bisect = finds_once find (bisects_finds (checked_right check a) bisect)

  module _ (readable : Readable N x) where
    wrong_of : {e : CdError} → Refuses N file x e → Wrong N file e
    wrong_of (unread b) = absurd (refused_unreadable b readable)
    wrong_of (unsound r w) = w

    answered : {e : CdError} → Wrong N file e → c ≡ Err e
    answered w = checks_once check (wrong w refl)

    -- FINDING REFUSES A FILE AS THE CHECK DOES
    pub find_refuses : {r : Result Found CdError} (e : CdError) → Finds N file x r → (r ≡ Err e) ↔ (c ≡ Err e)
    find_refuses e find = (
      λ h. answered (wrong_of (found_refused e find h)),
      λ h. finds_once find (finds.refused (unsound readable (checked_wrong e check h)) refl),
    )

    file_wrong : {r : Result ℕ CdError} {out out' : List ℕ} {e : CdError} → OfFile e → Adds N file x out out' r → r ≡ Err e → Wrong N file e
    file_wrong {e = e} of (adds.refused {e = d} w h k) a = let z = sym h ∙ a in let q : d ≡ e = cc in subst (Wrong N file) q (wrong_of w)
    file_wrong {e = e} of (adds.present {p = p} s q h k) a = let z = sym h ∙ a in let f : OnShelf p ≡ e = cc in absurd (not_20 of f)
    file_wrong {e = e} of (adds.short s q m h k) a = let z = sym h ∙ a in let f : ShortBuffer ≡ e = cc in absurd (not_12 of f)
    file_wrong {e = e} of (adds.added s q m h k) a = let z = sym h ∙ a in cc

    -- AND SO DOES ADDING
    pub add_refuses : {r : Result ℕ CdError} {out out' : List ℕ} (e : CdError) → OfFile e → Adds N file x out out' r → (r ≡ Err e) ↔ (c ≡ Err e)
    add_refuses {out = out} e of add = (λ h. answered (file_wrong of add h), λ h. (adds_once add (untouched h)).0)
      where
        untouched : c ≡ Err e → Adds N file x out out (Err e)
        untouched h = adds.refused (unsound readable (checked_wrong e check h)) refl refl
