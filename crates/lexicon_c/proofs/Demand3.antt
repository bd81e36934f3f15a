-- Demand 3 of the calls for C: two calls of `lexicon_write_record` that return 0, each with a wish of its own, have written the same 370 bytes exactly when some
-- renumbering carries one text's diagram onto the other's; with ticket K9, their numberings tell such a renumbering, and one text and one buffer have one answer. It rests on the promise
-- `FilesForC` alone. Assumes nothing.
use Rattle.std.specs.Prelude.{Result, Ok}
use mathlib.Core.Bool.{Bool}
use mathlib.Core.List.{List}
use mathlib.Core.Logic.{◌↔◌}
use mathlib.Core.Path.{◌≡◌, sym, ap, ◌∙◌, subst₂}
use Prim.Native.Nat.{ℕ, ◌≤◌, ◌<◌}
use lib.ListN.{length, take}
use Rattle.cd.specs.Diagrams.{Stored, limit}
use Rattle.cd.specs.declared.CdError.{CdError}
use Rattle.cd.specs.declared.Node.{Node}
use Rattle.filing.specs.Diagrams.{Carries, Iso}
use Rattle.filing.specs.Numberings.{at}
use Rattle.filing.specs.Records.{record_length}
use Rattle.lexicon.specs.Files.{Files, refused, short, filed}
use Rattle.lexicon.specs.declared.Filed.{Filed}
use Rattle.lexicon.proofs.OneAnswer.{on_accepted}
use Rattle.lexicon.proofs.OneAnswer as one
use Rattle.lexicon.proofs.Demand3 as lexicon
use Rattle.parse.specs.Reading.{Accepted, read}
use Rattle.tables.specs.Diagrams.{diagram}
use Rattle.lexicon_c.specs.Calls.{FilesForC, replaced}
use Rattle.lexicon_c.proofs.Telling.{answered_0, answers_0, tells_once}

-- what a call that returns 0 tells: the text has a diagram, and the buffer is long enough
pub record Filed0 (wish : Bool) (text out : List ℕ) : Type 0 where
  pub nodes : List Node
  pub edges : List Stored
  pub accepted : read wish text ≡ Accepted nodes edges
  pub long : record_length limit ≤ length out

module _ {wish : Bool} {text out out' : List ℕ} {r : Result Filed CdError} where
  on_answer : {x : Filed} → r ≡ Ok x → Files wish text out out' r → Filed0 wish text out
  on_answer is (refused h q o) = let z = sym is ∙ q in cc
  on_answer is (short h l q o) = let z = sym is ∙ q in cc
  on_answer is (filed {ns} {es} h l a c w) = record { nodes = ns; edges = es; accepted = h; long = l }

pub returned_0 : {wish : Bool} {text out out' p p' u : List ℕ} {n : ℕ} → FilesForC wish text out out' p p' u n → n ≡ 0 → Filed0 wish text out
returned_0 f z = let (x, is) = answered_0 f.tells z in on_answer is f.files

-- and such a call returns 0
pub returns_0 : {wish : Bool} {text out out' p p' u : List ℕ} {n : ℕ} → FilesForC wish text out out' p p' u n → Filed0 wish text out → n ≡ 0
returns_0 f d = answers_0 f.tells (on_accepted f.files d.accepted d.long).is

-- the numbering that such a call leaves
numbering_0 : {wish : Bool} {text out out' p p' u : List ℕ} {n : ℕ} (f : FilesForC wish text out out' p p' u n) {x : Filed} → f.filed ≡ Ok x → p' ≡ x.numbering
unfolding replaced
numbering_0 {p = p} f is = f.nodes ∙ ap (λ r. replaced r p) is

-- one text, one buffer and one array of nodes before the call, one of each afterwards, and one answer
pub one_answer : {wish : Bool} {text out a b p q q' u v : List ℕ} {m n : ℕ} → FilesForC wish text out a p q u m → FilesForC wish text out b p q' v n → (a ≡ b) × (q ≡ q') × (u ≡ v) × (m ≡ n)
one_answer {p = p} f g =
    let (bytes, same) = one.one_answer f.files g.files in
    let (told_same, returned-same) = tells_once same f.tells g.tells in
    (bytes, f.nodes ∙ ap (λ r. replaced r p) same ∙ sym g.nodes, told_same, returned-same)

-- one text, one record and one numbering, whatever the buffers were
pub one_filing : {wish : Bool} {text a a' b b' p p' q q' u v : List ℕ} {m n : ℕ} → FilesForC wish text a a' p p' u m → FilesForC wish text b b' q q' v n → m ≡ 0 → n ≡ 0
    → (take (record_length limit) a' ≡ take (record_length limit) b') × (p' ≡ q')
one_filing f g m-0 n-0 =
    let d = returned_0 f m-0 in
    let e = returned_0 g n-0 in
    let (bytes, same) = one.one_filing d.accepted d.long e.long f.files g.files in
    let is = (on_accepted g.files e.accepted e.long).is in
    (bytes, numbering_0 f (same ∙ is) ∙ sym (numbering_0 g is))

-- two calls that return 0
module _ (w z : Bool) (s t a a' b b' p p' q q' u v : List ℕ) (m n : ℕ) (files-s : FilesForC w s a a' p p' u m) (files-t : FilesForC z t b b' q q' v n) (m-0 : m ≡ 0) (n-0 : n ≡ 0) where
  abbrev pub drawn_s : Filed0 w s a
  drawn_s = returned_0 files-s m-0

  abbrev pub drawn_t : Filed0 z t b
  drawn_t = returned_0 files-t n-0

  pub demand_3 : (take (record_length limit) a' ≡ take (record_length limit) b')
      ↔ Iso (diagram drawn_s.nodes drawn_s.edges) (diagram drawn_t.nodes drawn_t.edges)
  demand_3 =
      lexicon.demand_3 w z s t drawn_s.nodes drawn_t.nodes drawn_s.edges drawn_t.edges a a' b b' files-s.filed files-t.filed drawn_s.accepted
      drawn_t.accepted drawn_s.long drawn_t.long files-s.files files-t.files

  -- which node is which
  pub nodes_correspond : take (record_length limit) a' ≡ take (record_length limit) b'
      → (f : ℕ → ℕ) × Carries (diagram drawn_s.nodes drawn_s.edges) (diagram drawn_t.nodes drawn_t.edges) f
      × ((i : ℕ) → i < length drawn_s.nodes → f (at p' i) ≡ at q' i)
  nodes_correspond same =
      let (x, y, is-x, is-y, f, c, to) =
      lexicon.nodes_correspond w z s t drawn_s.nodes drawn_t.nodes drawn_s.edges drawn_t.edges a a' b b' files-s.filed files-t.filed drawn_s.accepted
      drawn_t.accepted drawn_s.long drawn_t.long files-s.files files-t.files same in
      (f, c, λ i h. subst₂ (λ j k. f (at j i) ≡ at k i) (sym (numbering_0 files-s is-x)) (sym (numbering_0 files-t is-y)) (to i h))
