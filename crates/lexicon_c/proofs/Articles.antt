-- Ticket K11 of the calls for C: where two calls of `lexicon_write_record` that return 0 have written the same 370 bytes, calls of `lexicon_read` and `lexicon_names` with the
-- same texts and wishes tell and show the same mark, the same number of edges between different nodes and the same names, or 21 for both. It rests on the promises
-- `FilesForC`, `ReadsForC` and `NamesForC` alone, and on the theorem of the calls in Rattle. Assumes nothing.
use Rattle.std.specs.Prelude.{Ok, Err}
use mathlib.Core.Bool.{Bool}
use mathlib.Core.List.{List, [], ◌∷◌, map}
use mathlib.Core.Path.{◌≡◌, refl, sym, ap, ◌∙◌, subst}
use Prim.Native.Nat.{ℕ, ◌+◌, ◌*◌, ◌≤◌, ◌<◌}
use native.Mathlib.Omega.{arith}
use lib.Dec.{ltb}
use lib.ListN.{length, get_or, take}
use lib.Seq.{get_or-append-add, get_or-take, length-take-le}
use Rattle.float.specs.Pick.{pick}
use Rattle.cd.specs.Arrays.{padded}
use Rattle.cd.specs.Diagrams.{Stored, none, between, limit, pair_limit, place, place_of, cd_of}
use Rattle.cd.specs.Refusals.{number_of}
use Rattle.cd.specs.declared.Cd.{Cd}
use Rattle.cd.specs.declared.CdError.TheVariants.{NoName}
use Rattle.cd.specs.declared.Node.{Node}
use Rattle.cd.specs.declared.Node.TheVariants.{Unringed}
use Rattle.cd.proofs.Arrays.{length_padded, get_or_padded, length_triangle, place_below}
use Rattle.cd.proofs.Stored.{count_held, nodes_held, pairs_held}
use Rattle.filing.specs.Counts.{pair_count}
use Rattle.filing.specs.Numberings.{Numbering}
use Rattle.filing.specs.Records.{record_length}
use Rattle.filing.proofs.Sums.{pairs_local}
use Rattle.group_names.specs.Named.{blank}
use Rattle.group_names.specs.Names.{written}
use Rattle.group_names.specs.declared.Groups.{Groups}
use Rattle.group_names.specs.declared.Name.{Name}
use Rattle.lent.specs.Outcomes.{Shows, outcome, told, fitted}
use Rattle.lent.specs.Shown.{diagram_length, names_length, flat, node_numbers, pair_numbers, numbers_of, group_numbers, names_of, of_reading, of_groups}
use Rattle.lent.proofs.Copying.{flat_at}
use Rattle.lent.proofs.Showing.{nodes_long, numbers_long, names_long, shown_told, shown_returned, shown_at}
use Rattle.lexicon.specs.Reads.{Reads}
use Rattle.lexicon.specs.declared.Reading.{Reading}
use Rattle.lexicon.proofs.Answers as answers
use Rattle.lexicon_articles.specs.Articles.{edge_count, name_at, SameNames}
use Rattle.lexicon_articles.specs.Articles as articles
use Rattle.lexicon_articles.proofs.EqualRecords as theorem
use Rattle.lexicon_names.specs.NamesText.{NamesText}
use Rattle.lexicon_names.proofs.OneAnswer.{names_few, names_full}
use Rattle.parse.specs.Reading.{Accepted, read}
use Rattle.parse.proofs.Outcomes.{accepted_few}
use Rattle.lexicon_c.specs.Articles.{Called, edges_shown, name_shown, SameNamesForC, named, nameless, SameArticleForC}
use Rattle.lexicon_c.specs.Calls.{FilesForC, ReadsForC, NamesForC}
use Rattle.lexicon_c.proofs.Demand3.{returned_0}

-- ---- what `lexicon_read` tells and shows of an accepted text

module _ {wish : Bool} {text out : List ℕ} {ns : List Node} {es : List Stored} (c : Called) (accepted : read wish text ≡ Accepted ns es)
    (reads : ReadsForC wish text out c.out c.answer c.returned) (room : diagram_length ≤ length out) {reading : Reading} (answered : reads.reading ≡ Ok reading) where
  abbrev cd : Cd
  cd = reading.cd

  held : cd ≡ cd_of ns es
  held = (answers.shown accepted (subst (Reads wish text) answered reads.reads)).0

  nodes_full : length cd.nodes ≡ limit
  nodes_full = ap length (nodes_held cd ns es held) ∙ length_padded (place Unringed) limit (map place ns)

  pairs_full : length cd.pairs ≡ pair_limit
  pairs_full = ap length (pairs_held cd ns es held) ∙ length_triangle (between 1 es) limit

  long : length (numbers_of cd) ≡ diagram_length
  long = omega (arith, numbers_long cd, nodes_full, pairs_full)

  is : of_reading reads.reading ≡ Shows (cd.count ∷ cd.edges ∷ pick reading.minimal 1 0 ∷ []) (numbers_of cd)
  unfolding outcome
  is = ap of_reading answered

  read_returned : c.returned ≡ 0
  read_returned = shown_returned reads.lends is (omega (arith, long))

  read_told : c.answer ≡ 0 ∷ cd.count ∷ cd.edges ∷ pick reading.minimal 1 0 ∷ []
  unfolding padded
  read_told = shown_told reads.lends is (omega (arith, long))

  -- the rank of a pair
  rank_shown : (i j : ℕ) → i < j → j < limit → get_or c.out (2 * limit + 3 * place_of i j) 0 ≡ (get_or cd.pairs (place_of i j) none).rank
  unfolding numbers_of pair_numbers
  rank_shown i j l h =
      let below : place_of i j < length cd.pairs = omega (arith, place_below limit i j l h, pairs_full) in
      let at : 2 * limit + 3 * place_of i j ≡ length (flat node_numbers cd.nodes) + (3 * place_of i j + 0) = omega (arith, nodes_long cd.nodes, nodes_full) in
      shown_at reads.lends is (omega (arith, long)) (2 * limit + 3 * place_of i j) 0 (omega (arith, long, pairs_full))
      ∙ ap (λ k. get_or (numbers_of cd) k 0) at
      ∙ get_or-append-add (flat node_numbers cd.nodes) (flat pair_numbers cd.pairs) (3 * place_of i j + 0) 0
      ∙ flat_at pair_numbers 3 (λ p. refl) cd.pairs (place_of i j) 0 none 0 below (omega arith)

  edges_shown_lem : edges_shown c ≡ edge_count cd
  edges_shown_lem =
      let few : cd.count ≤ limit = omega (arith, count_held cd ns es held, accepted_few wish text ns es accepted) in
      ap (λ z. pair_count (λ i j. ltb 0 (get_or c.out (2 * limit + 3 * place_of i j) 0)) (get_or z 1 0)) read_told
      ∙ pairs_local _ _ cd.count (λ i j l h. ap (ltb 0) (rank_shown i j l (omega arith)))

  mark_shown : get_or c.answer 3 0 ≡ pick reading.minimal 1 0
  mark_shown = ap (λ z. get_or z 3 0) read_told

-- ---- what `lexicon_names` tells and shows

-- a name and an order as numbers
numbers : Name × ℕ → List ℕ
numbers (x, o) = (written x).letter ∷ (written x).number ∷ o ∷ []

module _ {wish : Bool} {text out : List ℕ} (c : Called) (names : NamesForC wish text out c.out c.answer c.returned) (room : names_length ≤ length out) where
  module _ {g : Groups} (named : names.groups ≡ Ok g) where
    names_ok : NamesText wish text (Ok g)
    names_ok = subst (NamesText wish text) named names.names

    shown : of_groups names.groups ≡ Shows (g.count ∷ []) (names_of g)
    unfolding outcome
    shown = ap of_groups named

    fits : length (names_of g) ≤ length out
    fits = omega (arith, names_long g)

    names_returned : c.returned ≡ 0
    names_returned = shown_returned names.lends shown fits

    names_told : get_or c.answer 1 0 ≡ g.count
    unfolding padded
    names_told = ap (λ z. get_or z 1 0) (shown_told names.lends shown fits)

    number_shown : (i k : ℕ) → i < g.count → k < 4 → get_or c.out (4 * i + k) 0 ≡ get_or (group_numbers (get_or g.at i blank)) k 0
    unfolding names_of group_numbers
    number_shown i k h l =
        let few = names_few names_ok in
        let whole : length (take g.count g.at) ≡ g.count = length-take-le g.count g.at (omega (arith, names_full names_ok)) in
        shown_at names.lends shown fits (4 * i + k) 0 (omega (arith, names_long g))
        ∙ get_or_padded 0 0 names_length (flat group_numbers (take g.count g.at)) (4 * i + k) (omega arith)
        ∙ flat_at group_numbers 4 (λ y. refl) (take g.count g.at) i k blank 0 (omega arith) l
        ∙ ap (λ y. get_or (group_numbers y) k 0) (get_or-take g.count g.at i blank h)

    name_shown_lem : (i : ℕ) → i < g.count → name_shown c i ≡ numbers (name_at g i)
    unfolding group_numbers numbers
    name_shown_lem i h = λ t. number_shown i 1 h (omega arith) t ∷ number_shown i 2 h (omega arith) t ∷ number_shown i 3 h (omega arith) t ∷ []

  names_refused : {v : ℕ} → names.groups ≡ Err (NoName v) → c.returned ≡ 21
  unfolding outcome told fitted number_of padded
  names_refused e = names.lends.returned ∙ ap (λ z. get_or z 0 0) (names.lends.answer ∙ ap (λ g. told (fitted (length out) (of_groups g))) e)

module _ {v w : Bool} {s t a b : List ℕ} (r g : Called) (names-s : NamesForC v s a r.out r.answer r.returned) (names-t : NamesForC w t b g.out g.answer g.returned)
    (room-s : names_length ≤ length a) (room-t : names_length ≤ length b) where
  names_alike : SameNames names-s.groups names-t.groups → SameNamesForC r g
  names_alike (articles.named {g = x} x-is y-is m) =
      let own = names_told r names-s room-s x-is in
      let other = names_told g names-t room-t y-is in
      named (names_returned r names-s room-s x-is) (names_returned g names-t room-t y-is) (record {
        size = own ∙ m.size ∙ sym other;
        places = m.places;
        numbering = subst (λ n. Numbering n m.places) (sym own) m.numbering;
        same = λ i h.
            let l : i < x.count = omega arith in
            name_shown_lem r names-s room-s x-is i l ∙ ap numbers (m.same i l) ∙ sym (name_shown_lem g names-t room-t y-is (m.places i) (omega (arith, m.numbering.within i l, m.size)));
      })
  names_alike (articles.nameless e q) = nameless (names_refused r names-s room-s e) (names_refused g names-t room-t q)

-- ---- EQUAL RECORDS, EQUAL ARTICLES

module _ (w z : Bool) (s t a a' b b' p p' q q' u v : List ℕ) (m n : ℕ) (files-s : FilesForC w s a a' p p' u m) (files-t : FilesForC z t b b' q q' v n) (m-0 : m ≡ 0) (n-0 : n ≡ 0)
    (equal : take (record_length limit) a' ≡ take (record_length limit) b') where
  pub equal_articles : {c d e f : List ℕ} (read-s names-s read-t names-t : Called)
      → ReadsForC w s c read-s.out read-s.answer read-s.returned → diagram_length ≤ length c
      → NamesForC w s d names-s.out names-s.answer names-s.returned → names_length ≤ length d
      → ReadsForC z t e read-t.out read-t.answer read-t.returned → diagram_length ≤ length e
      → NamesForC z t f names-t.out names-t.answer names-t.returned → names_length ≤ length f
      → SameArticleForC read-s names-s read-t names-t
  equal_articles read-s names-s read-t names-t ps lc rs ld qt le gt lf =
      let x = returned_0 files-s m-0 in
      let y = returned_0 files-t n-0 in
      let (c, d, is-c, is-d, same) =
      theorem.equal_articles w z s t x.nodes y.nodes x.edges y.edges a a' b b' files-s.filed files-t.filed x.accepted y.accepted x.long y.long
      files-s.files files-t.files equal ps.reads rs.names qt.reads gt.names in
      record {
        read = (read_returned read-s x.accepted ps lc is-c, read_returned read-t y.accepted qt le is-d);
        mark = mark_shown read-s x.accepted ps lc is-c ∙ ap (λ k. pick k 1 0) same.mark ∙ sym (mark_shown read-t y.accepted qt le is-d);
        edges = edges_shown_lem read-s x.accepted ps lc is-c ∙ same.edges ∙ sym (edges_shown_lem read-t y.accepted qt le is-d);
        names = names_alike names-s names-t rs gt ld lf same.names;
      }
