-- The answer of `write_record` is a function of the text and the buffer: a text is read in one way, a diagram has one record, and of the numberings that give it one
-- is the first (ticket K9). The record and the numbering are a function of the text alone. Assumes nothing.
use Rattle.std.specs.Prelude.{Result, Ok, Err}
use mathlib.Core.Bool.{Bool}
use mathlib.Core.List.{List}
use mathlib.Core.Path.{◌≡◌, refl, sym, ap, ap₂, ◌∙◌, subst}
use Prim.Native.Nat.{ℕ, ◌≤◌, ◌<◌}
use native.Mathlib.Omega.{arith}
use lib.ListN.{length, take}
use Rattle.cd.specs.Diagrams.{Stored, limit}
use Rattle.cd.specs.declared.CdError.{CdError}
use Rattle.cd.specs.declared.CdError.TheVariants.{ShortBuffer}
use Rattle.cd.specs.declared.Node.{Node}
use Rattle.filing.specs.Records.{record_length}
use Rattle.parse.specs.Reading.{Reading, Accepted, Refused, read}
use Rattle.records.specs.Written.{Written}
use Rattle.records.proofs.Written.{same_bytes, same_numbering, same_buffer}
use Rattle.tables.specs.Diagrams.{diagram}
use Rattle.lexicon.specs.Files.{Files, refused, short, filed}
use Rattle.lexicon.specs.declared.Filed.{Filed}

-- ---- a text is read in one way

pub not_both : {x : Reading} {e : CdError} {ns : List Node} {es : List Stored} → x ≡ Refused e → x ≡ Accepted ns es → ⊥
not_both h k = let z : ◌≡◌ {A = ℕ} 0 1 = (cc) in omega arith

pub one_refusal : {x : Reading} {e f : CdError} → x ≡ Refused e → x ≡ Refused f → e ≡ f
one_refusal {e = e} {f = f} h k = let d = sym h ∙ k in let q : e ≡ f = cc in q

pub one_diagram : {x : Reading} {ns ms : List Node} {es fs : List Stored} → x ≡ Accepted ns es → x ≡ Accepted ms fs → (ns ≡ ms) × (es ≡ fs)
one_diagram {ns = ns} {ms = ms} {es = es} {fs = fs} h k = let e = sym h ∙ k in ((let q : ns ≡ ms = cc in q), (let q : es ≡ fs = cc in q))

-- ---- what a call answers to a text that is refused, or accepted

-- the answer to an accepted text, where the buffer is long enough
pub record Accepts (ns : List Node) (es : List Stored) (out out' : List ℕ) (r : Result Filed CdError) : Type 0 where
  pub filing : Filed
  pub is : r ≡ Ok filing
  pub count : filing.count ≡ length ns
  pub written : Written limit (diagram ns es) out out' filing.numbering

module _ {wish : Bool} {text out out' : List ℕ} {r : Result Filed CdError} where
  pub on_refused : {e : CdError} → Files wish text out out' r → read wish text ≡ Refused e → (r ≡ Err e) × (out' ≡ out)
  on_refused (refused h q o) k = (q ∙ ap Err (one_refusal h k), o)
  on_refused (short h l q o) k = absurd (not_both k h)
  on_refused (filed h l a n w) k = absurd (not_both k h)

  on_short : {ns : List Node} {es : List Stored} → Files wish text out out' r → read wish text ≡ Accepted ns es → length out < record_length limit → (r ≡ Err ShortBuffer) × (out' ≡ out)
  on_short (refused h q o) k m = absurd (not_both h k)
  on_short (short h l q o) k m = (q, o)
  on_short (filed h l a n w) k m = absurd (omega arith)

  pub on_accepted : {ns : List Node} {es : List Stored} → Files wish text out out' r → read wish text ≡ Accepted ns es → record_length limit ≤ length out → Accepts ns es out out' r
  on_accepted (refused h q o) k m = absurd (not_both h k)
  on_accepted (short h l q o) k m = absurd (omega arith)
  on_accepted (filed {f = f} h l a n w) k m =
      let (ns-same, es-same) = one_diagram h k in
      record { filing = f; is = a; count = n ∙ ap length ns-same; written = subst (λ d. Written limit d out out' f.numbering) (ap₂ diagram ns-same es-same) w }

-- what is answered says which numbering was written by
pub written_as : {ns : List Node} {es : List Stored} {out out' : List ℕ} {r : Result Filed CdError} {f : Filed} → Accepts ns es out out' r → r ≡ Ok f → Written limit (diagram ns es) out out' f.numbering
written_as {ns} {es} {out} {out'} {r} {f} a h =
    let e = sym a.is ∙ h in
    let s : a.filing ≡ f = cc in
    subst (λ (g : Filed). Written limit (diagram ns es) out out' g.numbering) s a.written

-- ---- one answer

filed_same : {x y : Filed} → x.numbering ≡ y.numbering → x.count ≡ y.count → x ≡ y
filed_same p n = λ i. record { numbering = p i; count = n i }

module _ {ns : List Node} {es : List Stored} {a a' b b' : List ℕ} {x y : Result Filed CdError} (f : Accepts ns es a a' x) (g : Accepts ns es b b' y) where
  accepts_same : x ≡ y
  accepts_same = f.is ∙ ap Ok (filed_same (same_numbering f.written g.written) (f.count ∙ sym g.count)) ∙ sym g.is

-- of one text and one buffer: "from here a drawing is fixed by its text"
pub one_answer : {wish : Bool} {text out a b : List ℕ} {x y : Result Filed CdError} → Files wish text out a x → Files wish text out b y → (a ≡ b) × (x ≡ y)
one_answer (refused h q o) g = let (r, p) = on_refused g h in (o ∙ sym p, q ∙ sym r)
one_answer (short h l q o) g = let (r, p) = on_short g h l in (o ∙ sym p, q ∙ sym r)
one_answer (filed {f = f} h l e n w) g =
    let v = on_accepted g h l in
    (same_buffer w v.written refl, accepts_same record { filing = f; is = e; count = n; written = w } v)

-- of one text and any two buffers that 12 does not refuse
pub one_filing : {wish : Bool} {text a a' b b' : List ℕ} {x y : Result Filed CdError} {ns : List Node} {es : List Stored} → read wish text ≡ Accepted ns es → record_length limit ≤ length a → record_length limit ≤ length b
    → Files wish text a a' x → Files wish text b b' y → (take (record_length limit) a' ≡ take (record_length limit) b') × (x ≡ y)
one_filing h l m f g =
    let v = on_accepted f h l in
    let w = on_accepted g h m in
    (same_bytes v.written w.written, accepts_same v w)
