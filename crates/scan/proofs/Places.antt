-- An edge that was read is one, and the place after it is past where reading began, and not past the end of the text. By induction on the bytes: a run ends
-- where it stands, or goes on one byte further. Assumes nothing.
use Prim.Native.Nat.{ℕ, ◌+◌, ◌≤◌, ◌<◌}
use mathlib.Core.Bool.{Bool, true, false}
use mathlib.Core.List.{List, [], ◌∷◌}
use mathlib.Core.Path.{◌≡◌, refl}
use native.Mathlib.Nat.{le_refl, le_trans}
use native.Mathlib.Omega.{arith}
use lib.ListN.{length, drop, length-drop}
use Rattle.std.specs.Prelude.{Option, Some, None, Result, Ok, Err}
use Rattle.float.specs.Pick.{pick}
use Rattle.cd.specs.Edges.{is_edge}
use Rattle.cd.specs.declared.CdError.{CdError}
use Rattle.cd.specs.declared.Edge.{Edge}
use Rattle.scan.specs.Bytes.{is_digit}
use Rattle.scan.specs.Spaces.{skip}
use Rattle.scan.specs.Edges.{sort_of, Part, empty, longer, closes, Read, edge, last_two, by_sort, run, if_any, optional, edge_at}
use Rattle.scan.specs.declared.Sort.{Sort}
use Rattle.scan.specs.declared.Sort.TheVariants.{Digit, Slash, Terminator, Other}
use Rattle.scan.proofs.Spaces.{skip_bounds}

-- if an edge was read, it is one, and the place after it is from lo to hi
data Next (lo hi : ℕ) : Read → Type 0 where
  read : {e : Edge} {next : ℕ} → is_edge e.num e.den ≡ true → lo ≤ next → next ≤ hi → Next lo hi (Ok (e, next))
  refused : {r : CdError} → Next lo hi (Err r)

next_widened : {lo hi lo' hi' : ℕ} {x : Read} → Next lo hi x → lo' ≤ lo → hi ≤ hi' → Next lo' hi' x
next_widened (read v a b) p q = read v (le_trans p a) (le_trans b q)
next_widened refused p q = refused

next_picked : {lo hi : ℕ} {x y : Read} (t : Bool) → Next lo hi x → Next lo hi y → Next lo hi (pick t x y)
next_picked true f g = f
next_picked false f g = g

next_sorted : {lo hi : ℕ} {x y z w : Read} (t : Sort) → Next lo hi x → Next lo hi y → Next lo hi z → Next lo hi w → Next lo hi (by_sort t x y z w)
unfolding by_sort
next_sorted Digit a b c d = a
next_sorted Slash a b c d = b
next_sorted Terminator a b c d = c
next_sorted Other a b c d = d

next_edge : (t : Bool) (num den i hi : ℕ) (r : CdError) → is_edge num den ≡ t → i ≤ hi → Next i hi (pick t (Ok (record { num = num; den = den }, i)) (Err r))
next_edge true num den i hi r v h = read v (le_refl i) h
next_edge false num den i hi r v h = refused

next_last_two : (before : Option ℕ) (last i hi : ℕ) → i ≤ hi → Next i hi (last_two before last i)
unfolding last_two edge
next_last_two None last i hi h = next_edge (is_edge last 1) last 1 i hi _ refl h
next_last_two (Some n) last i hi h = next_edge (is_edge n last) n last i hi _ refl h

next_run : (bs : List ℕ) (i : ℕ) (before : Option ℕ) (p : Part) → Next i (i + length bs) (run bs i before p)
unfolding run
next_run [] i before p = refused
next_run (b ∷ bs) i before p =
    next_sorted (sort_of b)
    (next_widened (next_run bs (i + 1) before (longer p b)) (omega arith) (omega arith))
    (next_picked (closes p) (next_widened (next_run bs (i + 1) (Some p.value) empty) (omega arith) (omega arith)) refused)
    (next_picked (closes p) (next_last_two before p.value i (i + length (b ∷ bs)) (omega arith)) refused)
    refused

-- the same where there may be none
data NextIfAny (lo hi : ℕ) : Result (Option (Edge × ℕ)) CdError → Type 0 where
  none : NextIfAny lo hi (Ok None)
  some : {e : Edge} {next : ℕ} → is_edge e.num e.den ≡ true → lo ≤ next → next ≤ hi → NextIfAny lo hi (Ok (Some (e, next)))
  refused_any : {r : CdError} → NextIfAny lo hi (Err r)

next_any : {lo hi : ℕ} {x : Read} → Next lo hi x → NextIfAny lo hi (if_any x)
next_any (read v p q) = some v p q
next_any refused = refused_any

next_read : {lo hi next : ℕ} {e : Edge} → NextIfAny lo hi (Ok (Some (e, next))) → (is_edge e.num e.den ≡ true) × (lo ≤ next) × (next ≤ hi)
next_read (some v p q) = (v, p, q)

-- a run's first byte is a digit, so that it goes on
next_first : (t : Bool) (b : ℕ) (bs : List ℕ) (i : ℕ) → is_digit b ≡ t → NextIfAny (i + 1) (i + length (b ∷ bs)) (pick t (if_any (run (b ∷ bs) i None empty)) (Ok None))
unfolding run by_sort sort_of
next_first true b bs i e = rw e (next_any (next_widened (next_run bs (i + 1) None (longer empty b)) (omega arith) (omega arith)))
next_first false b bs i e = none

next_optional : (bs : List ℕ) (i : ℕ) → NextIfAny (i + 1) (i + length bs) (optional bs i)
unfolding optional
next_optional [] i = none
next_optional (b ∷ bs) i = next_first (is_digit b) b bs i refl

pub edge_next : (s : List ℕ) (at : ℕ) (e : Edge) (next : ℕ) → at ≤ length s → edge_at s at ≡ Ok (Some (e, next)) → (at < next) × (next ≤ length s)
unfolding edge_at
edge_next s at e next h q =
    let i = skip (drop at s) at in
    let k = skip_bounds (drop at s) at in
    let r = next_read (rw q at (next_optional (drop i s) i)) in
    omega (arith, length-drop at s, length-drop i s)

pub edge_valid : (s : List ℕ) (at : ℕ) (e : Edge) (next : ℕ) → edge_at s at ≡ Ok (Some (e, next)) → is_edge e.num e.den ≡ true
unfolding edge_at
edge_valid s at e next q = let i = skip (drop at s) at in (next_read (rw q at (next_optional (drop i s) i))).0
