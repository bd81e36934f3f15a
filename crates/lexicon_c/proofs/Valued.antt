-- The values of a diagram that can be filed are no nan, so that they have bits. Assumes nothing.
use Rattle.std.specs.Prelude.{Result, Ok}
use mathlib.Core.Bool.{Bool, false, true≢false}
use mathlib.Core.List.{List}
use mathlib.Core.Path.{◌≡◌, refl, sym, ap, subst, ◌∙◌}
use Prim.Native.Nat.{ℕ}
use lib.Ieee.{Float, binary64, is_nan, to_bits, nan_bits, nan, inf, fin}
use lib.ListN.{get_or}
use Rattle.cd.specs.Diagrams.{Stored, limit, cd_of}
use Rattle.cd.specs.declared.Cd.{Cd}
use Rattle.cd.specs.declared.CdError.{CdError}
use Rattle.cd.specs.declared.Node.{Node}
use Rattle.cd.specs.declared.Node.TheVariants.{Unringed, Ringed, Snub}
use Rattle.filing.specs.Diagrams.{IsNode, IsDiagram}
use Rattle.lexicon.specs.Reads.{Reads, refused, accepted}
use Rattle.lexicon.specs.ReadsRecord.{ReadsRecord}
use Rattle.lexicon.specs.declared.Reading.{Reading}
use Rattle.lexicon.proofs.Answers.{accepts}
use Rattle.lexicon.proofs.Fileable.{accepted_diagram}
use Rattle.parse.specs.Reading as parse
use Rattle.readback.specs.ReadBack.{ReadBack, wrong_length, no_diagram, not_smallest, record_of}
use Rattle.tables.specs.Diagrams.{filed, diagram}
use Rattle.tables.specs.Tables.{IsNumber, Numbers}
use Rattle.tables.proofs.TableLayouts.{numbers_held}

no_nan : (v : Float) → nan_bits binary64 (to_bits binary64 v) ≡ false → is_nan v ≡ false
unfolding nan_bits to_bits is_nan
no_nan nan h = absurd (true≢false h)
no_nan (inf s) h = refl
no_nan (fin s m e) h = refl

is_number : (n : Node) → IsNode (filed n) → IsNumber n
unfolding filed
is_number Unringed h = tt
is_number (Ringed v) h = no_nan v h.number
is_number (Snub v) h = no_nan v h.number

valued : (cd : Cd) (ns : List Node) (es : List Stored) → IsDiagram limit (diagram ns es) → cd ≡ cd_of ns es → Numbers cd.nodes
unfolding diagram
valued cd ns es d held = numbers_held cd ns es held (λ i l. is_number (get_or ns i Unringed) (d.nodes i l))

pub text_valued : {wish : Bool} {text : List ℕ} {r : Result Reading CdError} {x : Reading} → Reads wish text r → r ≡ Ok x → Numbers x.cd.nodes
text_valued (refused h e) is = let z = sym e ∙ is in cc
text_valued {wish = wish} {text = text} {x = x} (accepted {ns = ns} {es = es} {b = b} h d e) is =
    let z = sym e ∙ is in
    let y : ◌≡◌ {A = Reading} (record { cd = cd_of ns es; minimal = b }) x = cc in
    let held : x.cd ≡ cd_of ns es = ap (λ (r : Reading). r.cd) (sym y) in
    valued x.cd ns es (accepted_diagram wish text ns es h) held

-- a diagram that is read back can be filed
abbrev Filable : parse.Reading → Type 0
Filable (parse.Accepted ns es) = IsDiagram limit (diagram ns es)
Filable (parse.Refused e) = Unit {0}

filable : {bytes : List ℕ} {x : parse.Reading} → ReadBack limit bytes x → Filable x
filable (wrong_length n) = tt
filable (no_diagram n m) = tt
filable (not_smallest h n) = tt
filable (record_of d r) = d

pub record_valued : {bytes : List ℕ} {r : Result Cd CdError} {cd : Cd} → ReadsRecord bytes r → r ≡ Ok cd → Numbers cd.nodes
record_valued {cd = cd} h is =
    let a = accepts h.reading cd (sym is ∙ h.shown) in
    valued cd a.ns a.es (subst Filable a.is (filable h.read_back)) a.held
