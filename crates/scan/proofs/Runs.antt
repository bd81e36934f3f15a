-- An edge's run. A part at or above 2 ^ 32 never closes, so the run cannot tell it from another such part, nor a part from its value up to 2 ^ 32.
-- At a position of a text the run goes by the byte there. Assumes nothing.
use Prim.Native.Nat.{ℕ, ◌+◌, ◌*◌, ◌-◌, ◌^◌, ◌≤◌, ◌<◌, min}
use mathlib.Core.Bool.{Bool, true, false}
use mathlib.Core.List.{List, [], ◌∷◌}
use mathlib.Core.Path.{◌≡◌, refl, sym, ap, ◌∙◌}
use native.Mathlib.Decide.{dec_le}
use native.Mathlib.Omega.{arith}
use lib.ListN.{length, get_or, drop, drop_of_length-le}
use borrow.Author.Tests.{le-ltb}
use Rattle.std.specs.Prelude.{Option, Some, None, Result, Ok, Err}
use Rattle.std.specs.Option.{unwrap_or}
use Rattle.float.specs.Pick.{pick}
use Rattle.cd.specs.declared.CdError.{CdError}
use Rattle.cd.specs.declared.CdError.TheVariants.{UnexpectedEnding, ParseError, InvalidSymbol}
use Rattle.cd.specs.declared.Edge.{Edge}
use Rattle.scan.specs.Bytes.{is, is_digit, digit}
use Rattle.scan.specs.Edges.{ends_run, sort_of, Part, empty, longer, closes, last_two, by_sort, run, if_any, optional, edge_at}
use Rattle.scan.specs.declared.Sort.TheVariants.{Digit, Slash, Terminator, Other}
use Rattle.scan.specs.Kept.{open_part, kept, kept_if_any}
use Rattle.scan.specs.Spaces.{skip}
use Rattle.scan.proofs.KeptLaws.{kept_any}
use Rattle.scan.proofs.Rest.{drop_at}

-- ---- sorts and parts

first_picked : (x y z : Bool) → pick x Digit (pick y Slash (pick z Terminator Other)) ≡ Digit → x ≡ true
first_picked true y z e = refl
first_picked false true z e = cc
first_picked false false true e = cc
first_picked false false false e = cc

pub digit_of_sort : (b : ℕ) → sort_of b ≡ Digit → is_digit b ≡ true
unfolding sort_of
digit_of_sort b e = first_picked (is_digit b) (is "/" b) (ends_run b) e

large_never_closes : (p : Part) → 2 ^ 32 ≤ p.value → closes p ≡ false
unfolding closes
large_never_closes p h = simp (le-ltb p.value (2 ^ 32) h)

-- ---- the run cannot tell a part from its value up to 2 ^ 32

large_alike : (bs : List ℕ) (i : ℕ) (before : Option ℕ) (p q : Part) → 2 ^ 32 ≤ p.value → 2 ^ 32 ≤ q.value → run bs i before p ≡ run bs i before q
unfolding run
large_alike [] i before p q h k = refl
large_alike (b ∷ bs) i before p q h k =
    simp (large_never_closes p h, large_never_closes q k, large_alike bs (i + 1) before (longer p b) (longer q b) (omega arith) (omega arith))

capped_alike : (bs : List ℕ) (i : ℕ) (before : Option ℕ) (p : Part) → run bs i before (record { value = min p.value (2 ^ 32); some = p.some }) ≡ run bs i before p
capped_alike bs i before p =
    elim (dec_le (2 ^ 32) p.value) [
      | yes h ↦ large_alike bs i before _ p (omega arith) h
      | no f ↦ let e : min p.value (2 ^ 32) ≡ p.value = omega arith in rw e
    ]

-- ---- the open part

pub open_value : (p : Option ℕ) → unwrap_or p 0 ≡ (open_part p).value
open_value None = refl
open_value (Some v) = refl

-- ---- a part that closes, or not

abbrev pub closing : Part → ℕ → Result ℕ CdError
closing p i = pick (closes p) (Ok p.value) (Err (ParseError (i - 1)))

if_closed : (t : Bool) (v n : ℕ) (r : CdError) → pick t (Ok v) (Err r) ≡ Ok n → (t ≡ true) × (v ≡ n)
if_closed true v n r h = (refl, cc)
if_closed false v n r h = (cc, cc)

if_refused : (t : Bool) (v : ℕ) (q r : CdError) → pick t (Ok v) (Err q) ≡ Err r → (t ≡ false) × (q ≡ r)
if_refused true v q r h = (cc, cc)
if_refused false v q r h = (refl, cc)

-- ---- the run at a position of a text

module _ (s : List ℕ) (i : ℕ) (before : Option ℕ) (p : Part) where
  pub run_at_digit : i < length s → sort_of (get_or s i 0) ≡ Digit → run (drop (i + 1) s) (i + 1) before (record { value = min (p.value * 10 + digit (get_or s i 0)) (2 ^ 32); some = true }) ≡ run (drop i s) i before p
  unfolding run by_sort
  run_at_digit h t = rw (drop_at s i h, t) (capped_alike (drop (i + 1) s) (i + 1) before (longer p (get_or s i 0)))

  pub run_at_slash : (n : ℕ) → i < length s → sort_of (get_or s i 0) ≡ Slash → closing p i ≡ Ok n → run (drop (i + 1) s) (i + 1) (Some n) empty ≡ run (drop i s) i before p
  unfolding run by_sort
  run_at_slash n h t e =
      let c = if_closed (closes p) p.value n _ e in
      rw (drop_at s i h, t, c.0, c.1)

  pub run_at_terminator : (n : ℕ) → i < length s → sort_of (get_or s i 0) ≡ Terminator → closing p i ≡ Ok n → last_two before n i ≡ run (drop i s) i before p
  unfolding run by_sort
  run_at_terminator n h t e =
      let c = if_closed (closes p) p.value n _ e in
      rw (drop_at s i h, t, c.0, c.1)

  pub run_at_slash_refused : (r : CdError) → i < length s → sort_of (get_or s i 0) ≡ Slash → closing p i ≡ Err r → Err r ≡ run (drop i s) i before p
  unfolding run by_sort
  run_at_slash_refused r h t e =
      let c = if_refused (closes p) p.value _ r e in
      rw (drop_at s i h, t, c.0, ← c.1)

  pub run_at_terminator_refused : (r : CdError) → i < length s → sort_of (get_or s i 0) ≡ Terminator → closing p i ≡ Err r → Err r ≡ run (drop i s) i before p
  unfolding run by_sort
  run_at_terminator_refused r h t e =
      let c = if_refused (closes p) p.value _ r e in
      rw (drop_at s i h, t, c.0, ← c.1)

  pub run_at_other : i < length s → sort_of (get_or s i 0) ≡ Other → Err (InvalidSymbol i) ≡ run (drop i s) i before p
  unfolding run by_sort
  run_at_other h t = rw (drop_at s i h, t)

  pub run_at_end : length s ≤ i → Err (UnexpectedEnding i) ≡ run (drop i s) i before p
  unfolding run
  run_at_end h = rw (drop_of_length-le s h)

  pub run_at_length : i ≡ length s → Err (UnexpectedEnding (length s)) ≡ run (drop i s) i before p
  unfolding run
  run_at_length e = let h : length s ≤ i = omega arith in rw (drop_of_length-le s h, e)

-- ---- an optional edge at a position, the first byte from there on that is no space being at i

module _ (s : List ℕ) (at i : ℕ) (skipped : i ≡ skip (drop at s) at) where
  edge_at_digit : i < length s → is_digit (get_or s i 0) ≡ true → if_any (kept (run (drop i s) i None empty)) ≡ kept_if_any (edge_at s at)
  unfolding edge_at optional
  edge_at_digit h e = rw (← skipped, drop_at s i h, e, kept_any)

  pub edge_read : (x : Edge × ℕ) → i < length s → is_digit (get_or s i 0) ≡ true → kept (run (drop i s) i None empty) ≡ Ok x → Ok (Some x) ≡ kept_if_any (edge_at s at)
  edge_read x h e k = ap if_any (sym k) ∙ edge_at_digit h e

  pub edge_refused : (r : CdError) → i < length s → is_digit (get_or s i 0) ≡ true → kept (run (drop i s) i None empty) ≡ Err r → Err r ≡ kept_if_any (edge_at s at)
  edge_refused r h e k = ap if_any (sym k) ∙ edge_at_digit h e

  pub no_edge_at_other : i < length s → is_digit (get_or s i 0) ≡ false → Ok None ≡ kept_if_any (edge_at s at)
  unfolding edge_at optional kept_if_any
  no_edge_at_other h e = rw (← skipped, drop_at s i h, e)

  pub no_edge_at_end : length s ≤ i → Ok None ≡ kept_if_any (edge_at s at)
  unfolding edge_at optional kept_if_any
  no_edge_at_end h = rw (← skipped, drop_of_length-le s h)

-- ---- what the functions' proofs use

pub ruleset run_laws = (digit_of_sort, open_value, run_at_digit, run_at_slash, run_at_terminator, run_at_slash_refused, run_at_terminator_refused, run_at_other, run_at_length)

pub ruleset edge_laws = (edge_read, edge_refused, no_edge_at_other, no_edge_at_end)
