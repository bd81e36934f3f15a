-- The library's order of lists of numbers, by the first that differs: it decides which of two lists of equal lengths comes before the other, and `≼`. Assumes nothing.
use mathlib.Core.List.{List, [], ◌∷◌}
use mathlib.Core.Path.{◌≡◌, refl, sym}
use Prim.Native.Nat.{ℕ, zero, suc, ◌≤◌, ◌<◌}
use native.Mathlib.Nat.{not-suc-le-zero, suc_inj}
use native.Mathlib.Omega.{arith}
use lib.ListN.{length, take}
use lib.Seq.{get_or-take, length-take-le}
use Rattle.std.proofs.Common.{Option, Some}
use Rattle.std.proofs.lemmas.Cmp.{ranked}
use Rattle.std.specs.Cmp.Lexicographic.{slice_partial_cmp}
use Rattle.std.specs.Ordering.{nat_cmp, partial_ordering_then, is_some_and, is_lt, is_le, MatchOrdering}
use Rattle.std.specs.declared.cmp.Ordering.{Ordering}
use Rattle.std.specs.declared.cmp.Ordering.TheVariants.{Less, Equal, Greater}
use Rattle.cd.specs.Minimal.{Decides}
use Rattle.cd.proofs.Decided.{decides_yes, decides_no, decides_same}
use Rattle.filing.specs.Bytes.{◌≼◌, ends, less, same}
use Rattle.filing.specs.Numberings.{at}
use Rattle.filing.specs.Sequences.{Agree, Before}
use Rattle.filing.proofs.Sequences.{agree_before, before_agree}

abbrev pub list_cmp : List ℕ → List ℕ → Option Ordering
list_cmp = slice_partial_cmp (λ x y. Some (nat_cmp x y))

-- ---- no greater

no_tail : {x y : ℕ} {xs ys : List ℕ} → y < x → (x ∷ xs) ≼ (y ∷ ys) → ⊥
no_tail h (less k) = omega arith
no_tail h (same e r) = omega arith

tail : {x y : ℕ} {xs ys : List ℕ} → x ≡ y → (x ∷ xs) ≼ (y ∷ ys) → xs ≼ ys
tail e (less h) = absurd (omega arith)
tail e (same f r) = r

pub le_decides : (xs ys : List ℕ) → Decides (xs ≼ ys) (is_some_and is_le (list_cmp xs ys))
le_decides [] [] = decides_yes ends
le_decides [] (y ∷ ys) = decides_yes ends
le_decides (x ∷ xs) [] = decides_no (λ h. elim h [ ])
le_decides (x ∷ xs) (y ∷ ys) = go (nat_cmp x y) (ranked x y _ refl) (le_decides xs ys)
  where
    go : (o : Ordering) → MatchOrdering o (x < y) (x ≡ y) (y < x) → Decides (xs ≼ ys) (is_some_and is_le (list_cmp xs ys))
        → Decides ((x ∷ xs) ≼ (y ∷ ys)) (is_some_and is_le (partial_ordering_then (Some o) (list_cmp xs ys)))
    go Less h d = decides_yes (less h)
    go Equal h d = decides_same (same h) (tail h) d
    go Greater h d = decides_no (no_tail h)

-- ---- before

module _ (x y n : ℕ) (xs ys : List ℕ) where
  before_head : x < y → Before (suc n) (at (x ∷ xs)) (at (y ∷ ys))
  before_head h = record { place = 0; low = omega arith; agree = λ i l. absurd (not-suc-le-zero l); less = h }

  before_tail : x ≡ y → Before n (at xs) (at ys) → Before (suc n) (at (x ∷ xs)) (at (y ∷ ys))
  before_tail e b = record { place = suc b.place; low = omega (arith, b.low); agree = agree; less = b.less }
    where
      agree : Agree (suc b.place) (at (x ∷ xs)) (at (y ∷ ys))
      agree zero l = e
      agree (suc i) l = b.agree i (omega arith)

  tail_before : x ≡ y → Before (suc n) (at (x ∷ xs)) (at (y ∷ ys)) → Before n (at xs) (at ys)
  tail_before e b = go b.place b.low b.agree b.less
    where
      go : (p : ℕ) → p < suc n → Agree p (at (x ∷ xs)) (at (y ∷ ys)) → at (x ∷ xs) p < at (y ∷ ys) p → Before n (at xs) (at ys)
      go zero l a h = absurd (omega arith)
      go (suc p) l a h = record { place = p; low = omega arith; agree = λ i k. a (suc i) (omega arith); less = h }

  not_before_head : y < x → Before (suc n) (at (x ∷ xs)) (at (y ∷ ys)) → ⊥
  not_before_head h b = go b.place b.agree b.less
    where
      go : (p : ℕ) → Agree p (at (x ∷ xs)) (at (y ∷ ys)) → at (x ∷ xs) p < at (y ∷ ys) p → ⊥
      go zero a k = omega arith
      go (suc p) a k = let z = a 0 (omega arith) in omega arith

lists_decide : (n : ℕ) (xs ys : List ℕ) → length xs ≡ n → length ys ≡ n → Decides (Before n (at xs) (at ys)) (is_some_and is_lt (list_cmp xs ys))
lists_decide zero [] [] a b = decides_no (λ h. not-suc-le-zero h.low)
lists_decide zero [] (y ∷ ys) a b = absurd (omega arith)
lists_decide zero (x ∷ xs) ys a b = absurd (omega arith)
lists_decide (suc n) [] ys a b = absurd (omega arith)
lists_decide (suc n) (x ∷ xs) [] a b = absurd (omega arith)
lists_decide (suc n) (x ∷ xs) (y ∷ ys) a b = go (nat_cmp x y) (ranked x y _ refl) (lists_decide n xs ys (suc_inj a) (suc_inj b))
  where
    go : (o : Ordering) → MatchOrdering o (x < y) (x ≡ y) (y < x) → Decides (Before n (at xs) (at ys)) (is_some_and is_lt (list_cmp xs ys))
        → Decides (Before (suc n) (at (x ∷ xs)) (at (y ∷ ys))) (is_some_and is_lt (partial_ordering_then (Some o) (list_cmp xs ys)))
    go Less h d = decides_yes (before_head x y n xs ys h)
    go Equal h d = decides_same (before_tail x y n xs ys h) (tail_before x y n xs ys h) d
    go Greater h d = decides_no (not_before_head x y n xs ys h)

-- of the first n numbers of two lists
pub before_decides : (n : ℕ) (xs ys : List ℕ) → n ≤ length xs → n ≤ length ys → Decides (Before n (at xs) (at ys)) (is_some_and is_lt (list_cmp (take n xs) (take n ys)))
before_decides n xs ys a b =
    decides_same
    (λ h. agree_before (at xs) (at (take n xs)) (at ys) (λ i l. sym (here xs i l)) (before_agree (at (take n xs)) (at (take n ys)) (at ys) h (here ys)))
    (λ h. agree_before (at (take n xs)) (at xs) (at (take n ys)) (here xs) (before_agree (at xs) (at ys) (at (take n ys)) h (λ i l. sym (here ys i l))))
    (lists_decide n (take n xs) (take n ys) (length-take-le n xs a) (length-take-le n ys b))
  where
    here : (zs : List ℕ) → Agree n (at (take n zs)) (at zs)
    here zs i l = get_or-take n zs i 0 l
