-- The promise of `names` leaves nothing free: of a text it allows one answer. Assumes nothing.
use mathlib.Core.Bool.{Bool}
use mathlib.Core.List.{List}
use mathlib.Core.Path.{◌≡◌, sym, ap, ◌∙◌}
use Prim.Native.Nat.{ℕ, ◌≤◌}
use native.Mathlib.Omega.{arith}
use lib.ListN.{length}
use Rattle.std.specs.Prelude.{Result, Ok, Err}
use Rattle.cd.specs.Diagrams.{Stored, limit}
use Rattle.cd.specs.declared.CdError.{CdError}
use Rattle.cd.specs.declared.Node.{Node}
use Rattle.cd.proofs.Arrays.{length_padded}
use Rattle.group_names.specs.Named.{blank, listing, Names, named, nameless}
use Rattle.group_names.specs.declared.Groups.{Groups}
use Rattle.group_names.proofs.Listed.{lists_short, names_once}
use Rattle.lexicon.proofs.Fileable.{accepted_diagram}
use Rattle.lexicon.proofs.OneAnswer.{not_both, one_refusal, one_diagram}
use Rattle.parse.specs.Reading.{Accepted, read}
use Rattle.parse.proofs.Outcomes.{accepted_few}
use Rattle.tables.specs.Diagrams.{diagram}
use Rattle.lexicon_names.specs.NamesText.{NamesText, refused, told}

-- what is told of an accepted text
pub told_of : {wish : Bool} {text : List ℕ} {r : Result Groups CdError} {ns : List Node} {es : List Stored} → NamesText wish text r → read wish text ≡ Accepted ns es → Names (length ns) es r
told_of (refused h e) k = absurd (not_both h k)
told_of {r = r} (told h n) k = let (s, t) = one_diagram h k in rw (ap length s, t) at n

-- no more components than nodes
pub names_few : {wish : Bool} {text : List ℕ} {g : Groups} → NamesText wish text (Ok g) → g.count ≤ limit
names_few (refused h e) = cc
names_few {wish} {text} {g} (told {ns} {es} h (named {gs} w e)) =
    let s : g ≡ listing gs = cc in
    omega (arith, ap (λ (z : Groups). z.count) s, lists_short w, accepted_few wish text ns es h)
names_few (told h (nameless l w low not e)) = cc

-- the array has all its places
pub names_full : {wish : Bool} {text : List ℕ} {g : Groups} → NamesText wish text (Ok g) → length g.at ≡ limit
names_full (refused h e) = cc
names_full {g = g} (told h (named {gs} w e)) =
    let s : g ≡ listing gs = cc in
    ap (λ (z : Groups). length z.at) s ∙ length_padded blank limit gs
names_full (told h (nameless l w low not e)) = cc

-- THE PROMISE OF `names` ALLOWS ONE ANSWER
pub one_answer : {wish : Bool} {text : List ℕ} {r s : Result Groups CdError} → NamesText wish text r → NamesText wish text s → r ≡ s
unfolding diagram
one_answer (refused h e) (refused k q) = e ∙ ap Err (one_refusal h k) ∙ sym q
one_answer (refused h e) (told k n) = absurd (not_both h k)
one_answer (told h n) (refused k q) = absurd (not_both k h)
one_answer {wish} {text} (told {ns} {es} h n) (told k m) =
    names_once (length ns) es (λ u v hu hv ne. ((accepted_diagram wish text ns es h).edges u v hu hv ne).den_pos) n (told_of (told k m) h)
