-- What an answer of the reader tells of the reading that it shows. Assumes nothing.
use Rattle.std.specs.Prelude.{Result, Ok, Err}
use Prim.Native.Nat.{ℕ, ◌≤◌}
use mathlib.Core.Bool.{Bool}
use mathlib.Core.List.{List}
use mathlib.Core.Path.{◌≡◌, refl, sym, ◌∙◌, subst}
use Rattle.cd.specs.Diagrams.{Stored, limit, cd_of}
use Rattle.cd.specs.Minimal.{Minimal, Decides}
use Rattle.cd.specs.declared.Cd.{Cd}
use Rattle.cd.specs.declared.CdError.{CdError}
use Rattle.cd.specs.declared.Node.{Node}
use Rattle.cd.proofs.Stored.{count_held}
use Rattle.parse.specs.Reading.{Reading, Accepted, Refused, read, answer}
use Rattle.parse.proofs.Outcomes.{accepted_few}
use Rattle.lexicon.specs.Reads.{Reads, refused, accepted}
use Rattle.lexicon.specs.declared.Reading as lexicon

-- ---- which reading an answer shows

pub record Accepts (x : Reading) (cd : Cd) : Type 0 where
  pub ns : List Node
  pub es : List Stored
  pub is : x ≡ Accepted ns es
  pub held : cd ≡ cd_of ns es

pub accepts : (x : Reading) (cd : Cd) → Ok cd ≡ answer x → Accepts x cd
unfolding answer
accepts (Accepted ns es) cd h = record { ns = ns; es = es; is = refl; held = (cc) }
accepts (Refused e) cd h = cc

pub refuses : (x : Reading) (e : CdError) → Err e ≡ answer x → x ≡ Refused e
unfolding answer
refuses (Accepted ns es) e h = cc
refuses (Refused d) e h = cc

-- the diagram of any text has at most `limit` nodes
pub read_few : (wish : Bool) (s : List ℕ) (cd : Cd) → Ok cd ≡ answer (read wish s) → cd.count ≤ limit
read_few wish s cd h =
    let a = accepts (read wish s) cd h in
    rw (count_held cd a.ns a.es a.held) (accepted_few wish s a.ns a.es a.is)

-- ---- what `read` answers to an accepted text

pub record Answers (ns : List Node) (es : List Stored) (r : Result lexicon.Reading CdError) : Type 0 where
  pub reading : lexicon.Reading
  pub is : r ≡ Ok reading
  pub cd : reading.cd ≡ cd_of ns es
  pub mark : Decides (Minimal ns es) reading.minimal

pub answers : {wish : Bool} {text : List ℕ} {ns : List Node} {es : List Stored} {r : Result lexicon.Reading CdError} → read wish text ≡ Accepted ns es → Reads wish text r → Answers ns es r
answers h (refused k e) = let z = sym h ∙ k in cc
answers {ns = ns} {es = es} h (accepted {ns = ms} {es = fs} {b = b} k d e) =
    let z = sym h ∙ k in
    let n : ns ≡ ms = cc in
    let f : es ≡ fs = cc in
    record { reading = record { cd = cd_of ms fs; minimal = b }; is = e; cd = rw (n, f); mark = rw (n, f) d }

pub shown : {wish : Bool} {text : List ℕ} {ns : List Node} {es : List Stored} {p : lexicon.Reading} → read wish text ≡ Accepted ns es → Reads wish text (Ok p)
    → (p.cd ≡ cd_of ns es) × Decides (Minimal ns es) p.minimal
shown {ns = ns} {es = es} {p = p} h k =
    let a = answers h k in
    let e = a.is in
    let same : a.reading ≡ p = cc in
    subst (λ (z : lexicon.Reading). (z.cd ≡ cd_of ns es) × Decides (Minimal ns es) z.minimal) same (a.cd, a.mark)
