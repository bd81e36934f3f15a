-- Document 01, "Reading", the item "Edge". The first byte of a list stands at i.
use Rattle.std.specs.Prelude.{ℕ, ◌+◌, ◌-◌, ◌*◌, ◌^◌, Bool, true, false, ◌&&◌, ◌||◌, List, [], ◌∷◌, ltb, eqb, drop, Option, Some, None, Result, Ok, Err}
use Prim.Native.Char.{code}
use Rattle.float.specs.Pick.{pick}
use Rattle.cd.specs.Edges.{is_edge}
use Rattle.cd.specs.declared.CdError.{CdError}
use Rattle.cd.specs.declared.CdError.TheVariants.{UnexpectedEnding, ParseError, InvalidSymbol, InvalidEdge}
use Rattle.cd.specs.declared.Edge.{Edge}
use Rattle.scan.specs.Bytes.{is, within, is_digit, digit}
use Rattle.scan.specs.Spaces.{skip}
use Rattle.scan.specs.declared.Sort.{Sort}
use Rattle.scan.specs.declared.Sort.TheVariants.{Digit, Slash, Terminator, Other}

-- "until `(`, `*`, byte 32, or a byte from `A` to `z`, the six signs between `Z` and `a` included"
unfoldable pub ends_run : ℕ → Bool
ends_run b = is "(" b || (is "*" b || (eqb b 32 || within (code "A") (code "z") b))

-- what a byte is to a run
unfoldable pub sort_of : ℕ → Sort
unfolding ends_run
sort_of b = pick (is_digit b) Digit (pick (is "/" b) Slash (pick (ends_run b) Terminator Other))

-- a part so far: its digits as a whole number, and whether it has any
pub record Part : Type 0 where
  pub value : ℕ
  pub some : Bool

abbrev pub empty : Part
empty = record { value = 0; some = false }

abbrev pub longer : Part → ℕ → Part
longer p b = record { value = p.value * 10 + digit b; some = true }

-- "every part must be a 32-bit number, tested only as it closes"
unfoldable pub closes : Part → Bool
closes p = ltb p.value (2 ^ 32) && p.some

-- an edge and the place after it, or a refusal
abbrev pub Read : Type 0
Read = Result (Edge × ℕ) CdError

-- an edge, or refusal 7 with the run's last byte
unfoldable pub edge : ℕ → ℕ → ℕ → Read
edge num den i = pick (is_edge num den) (Ok (record { num = num; den = den }, i)) (Err (InvalidEdge num den (i - 1)))

-- "only the last two count"; a part alone is over 1
unfoldable pub last_two : Option ℕ → ℕ → ℕ → Read
unfolding edge
last_two None last i = edge last 1 i
last_two (Some n) last i = edge n last i

unfoldable pub by_sort : Sort → Read → Read → Read → Read → Read
by_sort Digit d s t o = d
by_sort Slash d s t o = s
by_sort Terminator d s t o = t
by_sort Other d s t o = o

-- "digits and `/` run until ..": the parts closed before, and the open one. "Each `/` closes a part, as does the run's end".
-- A part that is no number is refused with the byte before the one that closes it.
unfoldable pub run : List ℕ → ℕ → Option ℕ → Part → Read
unfolding last_two closes sort_of by_sort
run [] i before p = Err (UnexpectedEnding i)
run (b ∷ bs) i before p =
    let on = run bs (i + 1) before (longer p b) in
    let next = run bs (i + 1) (Some p.value) empty in
    by_sort (sort_of b) on (pick (closes p) next (Err (ParseError (i - 1)))) (pick (closes p) (last_two before p.value i) (Err (ParseError (i - 1)))) (Err (InvalidSymbol i))

-- an edge that was read, where there may be none
abbrev pub if_any : Read → Result (Option (Edge × ℕ)) CdError
if_any (Ok x) = Ok (Some x)
if_any (Err r) = Err r

-- "Unless the byte is a digit there is no edge."
unfoldable pub optional : List ℕ → ℕ → Result (Option (Edge × ℕ)) CdError
unfolding run
optional [] i = Ok None
optional (b ∷ bs) i = let r = run (b ∷ bs) i None empty in pick (is_digit b) (if_any r) (Ok None)

-- "Edge: skip spaces."
unfoldable pub edge_at : List ℕ → ℕ → Result (Option (Edge × ℕ)) CdError
unfolding optional skip
edge_at s at = let i = skip (drop at s) at in optional (drop i s) i
