-- Ticket K11: "any two accepted texts with equal filing records have the same minimal mark, the same number of stored edges between different nodes, and the same
-- names and orders as a multiset, unless both are refused with 21". Each text has a wish of its own. By demand 3 some renumbering carries one diagram onto the other; it carries
-- the rest. It rests on the promises of `read`, `write_record` and `names` alone. Assumes nothing.
use Rattle.std.specs.Prelude.{Result, Ok}
use mathlib.Core.Bool.{Bool}
use mathlib.Core.List.{List}
use mathlib.Core.Path.{◌≡◌, sym, ◌∙◌}
use Prim.Native.Nat.{ℕ, ◌≤◌}
use lib.ListN.{length, take}
use Rattle.cd.specs.Diagrams.{Stored, limit}
use Rattle.cd.specs.declared.CdError.{CdError}
use Rattle.cd.specs.declared.Node.{Node}
use Rattle.cd.proofs.Decided.{decides_same}
use Rattle.filing.specs.Records.{record_length}
use Rattle.group_names.specs.declared.Groups.{Groups}
use Rattle.lexicon.specs.Files.{Files}
use Rattle.lexicon.specs.Reads.{Reads}
use Rattle.lexicon.specs.declared.Filed.{Filed}
use Rattle.lexicon.specs.declared.Reading.{Reading}
use Rattle.lexicon.proofs.Answers.{Answers, answers}
use Rattle.lexicon.proofs.Demand3.{no_false_match}
use Rattle.lexicon.proofs.Fileable.{accepted_diagram, accepted_kept, accepted_tidy}
use Rattle.lexicon.proofs.Marks.{marked_once}
use Rattle.lexicon_names.specs.NamesText.{NamesText}
use Rattle.lexicon_names.proofs.OneAnswer.{told_of}
use Rattle.parse.specs.Reading.{Accepted, read}
use Rattle.parse.proofs.Outcomes.{accepted_few}
use Rattle.tables.specs.Diagrams.{diagram}
use Rattle.lexicon_articles.specs.Articles.{without_loops, edge_count, SameNames, SameArticle}
use Rattle.lexicon_articles.proofs.Carried.{Carried, carried, turned, minimal_carried}
use Rattle.lexicon_articles.proofs.EdgeCount.{edges_carried, edges_answered}
use Rattle.lexicon_articles.proofs.Names as names

edges_of : (wish : Bool) (text : List ℕ) {ns : List Node} {es : List Stored} {r : Result Reading CdError} → read wish text ≡ Accepted ns es → (a : Answers ns es r) → edge_count a.reading.cd ≡ length (without_loops es)
edges_of wish text {ns} {es} h a = edges_answered a.reading.cd ns es a.cd (accepted_few wish text ns es h) (accepted_tidy wish text ns es h)

-- the count of an answered diagram is that of the stored edges
pub edges_counted : {wish : Bool} {text : List ℕ} {ns : List Node} {es : List Stored} {r : Result Reading CdError} → read wish text ≡ Accepted ns es → Reads wish text r → (p : Reading) × (r ≡ Ok p) × (edge_count p.cd ≡ length (without_loops es))
edges_counted {wish} {text} h k = let a = answers h k in (a.reading, a.is, edges_of wish text h a)

-- two wishes, and two texts that are accepted so; two buffers that 12 does not refuse, before and after, whose records are the same
module _ (v w : Bool) (s t : List ℕ) (ns ms : List Node) (es fs : List Stored) (a a' b b' : List ℕ) (x y : Result Filed CdError)
    (accepted-s : read v s ≡ Accepted ns es) (accepted-t : read w t ≡ Accepted ms fs)
    (long-a : record_length limit ≤ length a) (long-b : record_length limit ≤ length b)
    (files-s : Files v s a a' x) (files-t : Files w t b b' y)
    (equal : take (record_length limit) a' ≡ take (record_length limit) b') where
  diagrams_carried : Carried ns es ms fs
  diagrams_carried =
      let (f, c) = no_false_match v w s t ns ms es fs a a' b b' x y accepted-s accepted-t long-a long-b files-s files-t equal in
      carried ns ms es fs f (accepted_kept v s ns es accepted-s) (accepted_kept w t ms fs accepted-t) (accepted_tidy v s ns es accepted-s) (accepted_tidy w t ms fs accepted-t) c

  marks_alike : {p q : Result Reading CdError} (c : Answers ns es p) (d : Answers ms fs q) → c.reading.minimal ≡ d.reading.minimal
  marks_alike c d =
      let carried = decides_same (minimal_carried diagrams_carried) (minimal_carried (turned diagrams_carried)) c.mark in
      marked_once (Accepted ms fs) c.reading.minimal d.reading.minimal carried d.mark

  -- "the same minimal mark"
  pub same_mark : {p q : Result Reading CdError} → Reads v s p → Reads w t q → (c : Reading) × (d : Reading) × (p ≡ Ok c) × (q ≡ Ok d) × (c.minimal ≡ d.minimal)
  same_mark ps qt =
      let c = answers accepted-s ps in
      let d = answers accepted-t qt in
      (c.reading, d.reading, c.is, d.is, marks_alike c d)

  -- "the same number of stored edges between different nodes"
  pub same_edges : length (without_loops es) ≡ length (without_loops fs)
  same_edges = edges_carried diagrams_carried (accepted_tidy v s ns es accepted-s) (accepted_tidy w t ms fs accepted-t)

  -- "the same names and orders as a multiset, unless both are refused with 21"
  pub same_names : {r g : Result Groups CdError} → NamesText v s r → NamesText w t g → SameNames r g
  unfolding diagram
  same_names rs rt =
      names.same_names diagrams_carried (accepted_few v s ns es accepted-s) (accepted_few w t ms fs accepted-t)
      (λ i j h k ne. ((accepted_diagram w t ms fs accepted-t).edges i j h k ne).den_pos) (told_of rs accepted-s) (told_of rt accepted-t)

  -- EQUAL RECORDS, EQUAL ARTICLES: whatever is answered is a reading of each text, and shows the same of both
  pub equal_articles : {p q : Result Reading CdError} {r g : Result Groups CdError} → Reads v s p → NamesText v s r → Reads w t q → NamesText w t g
      → (c : Reading) × (d : Reading) × (p ≡ Ok c) × (q ≡ Ok d) × SameArticle c r d g
  equal_articles ps rs qt gt =
      let c = answers accepted-s ps in
      let d = answers accepted-t qt in (
        c.reading,
        d.reading,
        c.is,
        d.is,
        record {
          mark = marks_alike c d;
          edges = edges_of v s accepted-s c ∙ same_edges ∙ sym (edges_of w t accepted-t d);
          names = same_names rs gt;
        },
      )
