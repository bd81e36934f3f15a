-- Document 01's "Texts to try", K2's and K6's: antt computes each reading, its line, the tests of its minimal mark and the layouts of its record. `minimal_by` is handed each
-- node's next step towards a ringed one, `not_minimal_by` nodes that no stored edge leaves, and one of them. Assumes nothing.
use Prim.Native.Nat.{ℕ, ◌-◌}
use Prim.Native.String.{String}
use mathlib.Core.Bool.{Bool, true, false}
use mathlib.Core.List.{List, [], ◌∷◌}
use mathlib.Core.Option.{Option, none, some, none-ne-some, some-injective}
use mathlib.Core.Path.{◌≡◌, refl, ap, ◌∙◌, subst}
use native.Mathlib.Omega.{arith}
use lib.Dec.{eqb}
use lib.Ieee.{of_bits, mul}
use lib.Text.{eqt}
use Rattle.float.specs.Decimal.{decimal_of}
use Rattle.float.specs.Pick.{pick}
use Rattle.cd.specs.Diagrams.{Stored, is_joined}
use Rattle.cd.specs.Edges.{is_edge, is_two, reduced}
use Rattle.cd.specs.Letters.{letter_of}
use Rattle.cd.specs.Minimal.{is_ringed, Minimal, Decides}
use Rattle.cd.specs.References.{ends_of}
use Rattle.cd.specs.Refusals.{number_of}
use Rattle.cd.specs.declared.CdError.{CdError}
use Rattle.cd.specs.declared.Node.{Node}
use Rattle.filing.specs.Records.{layout}
use Rattle.filing.proofs.Numberings.{identity}
use Rattle.scan.specs.Ascii.{ascii}
use Rattle.scan.specs.Bytes.{is_digit, is_space}
use Rattle.scan.specs.Edges.{edge_at}
use Rattle.scan.specs.Spaces.{skip}
use Rattle.length.specs.Literals.{literal_of}
use Rattle.node.specs.Nodes.{node_at}
use Rattle.parse.specs.Text.{text_from}
use Rattle.parse.specs.Joining.{join_all}
use Rattle.parse.specs.Reading.{Accepted, Refused, kept, read}
use Rattle.tables.specs.Diagrams.{diagram}
use Rattle.lexicon.specs.All.{All, nil, cons}
use Rattle.lexicon.specs.Answers.{answer_of, numeral}
use Rattle.lexicon.specs.Reads.{Marks}
use Rattle.lexicon.specs.Texts.{ok, no, shown, Entry, FiledAs, RightEntry, texts}
use Rattle.lexicon.proofs.FewNodes.{no_greater, exchange, only_layout, least_of_two}
use Rattle.lexicon.proofs.Marks.{marked_once, every, leads, minimal_by, not_minimal_by}
use Rattle.lexicon.proofs.SoundNodes.{picked}

-- ---- an entry is right by what its text is read as

accepted_right : (t : String) {wish : Bool} {l : String} {ns : List Node} {es : List Stored} {b : Bool} {bs : Option (List ℕ)} → read wish (ascii t) ≡ Accepted ns es
    → Decides (Minimal ns es) b → answer_of (Accepted ns es) b ≡ ascii l → FiledAs bs (ok ns es)
    → RightEntry (record { text = t; wish = wish; gives = ok ns es; minimal = b; line = l; bytes = bs })
unfolding shown
accepted_right t {b} h mark line filed = record { reading = ap shown h; mark = rw h mark; line = ap (λ r. answer_of r b) h ∙ line; filed = filed }

refused_right : (t : String) {wish : Bool} {l : String} {r : CdError} {fields : List ℕ} → read wish (ascii t) ≡ Refused r → number_of r ≡ fields → answer_of (Refused r) false ≡ ascii l
    → RightEntry (record { text = t; wish = wish; gives = no fields; minimal = false; line = l; bytes = none })
unfolding shown
refused_right t h fields line = record { reading = ap shown h ∙ ap no fields; mark = rw h refl; line = ap (λ r. answer_of r false) h ∙ line; filed = tt }

-- ---- the list

pub texts_right : All RightEntry texts
unfolding texts read kept reduced text_from join_all node_at literal_of edge_at skip is_digit is_space ascii letter_of is_edge is_two ends_of of_bits decimal_of mul number_of answer_of numeral is_ringed is_joined every leads diagram layout no_greater
texts_right =
    cons (refused_right "" refl refl refl) (
    cons (accepted_right "*a" refl (minimal_by (λ i. i) refl) refl (only_layout (identity 0) refl (omega arith))) (
    cons (accepted_right "x5/3/2o" refl (minimal_by (λ i. i - 1) refl) refl tt) (
    cons (accepted_right "x4/2o" refl (not_minimal_by (eqb 1) 1 refl refl refl refl) refl tt) (
    cons (accepted_right "x2*c" refl (minimal_by (λ i. i) refl) refl tt) (
    cons (refused_right "x3*c" refl refl refl) (
    cons (refused_right "x3/o" refl refl refl) (
    cons (refused_right "x3" refl refl refl) (
    cons (refused_right "x " refl refl refl) (
    cons (refused_right "(" refl refl refl) (
    cons (refused_right "()" refl refl refl) (
    cons (refused_right "(nan)" refl refl refl) (
    cons (refused_right "x3_" refl refl refl) (
    cons (refused_right "x4294967296o" refl refl refl) (
    cons (accepted_right "ooooooooo" refl (not_minimal_by (λ i. true) 0 refl refl refl refl) refl tt) (
    cons (refused_right "oooooooooo" refl refl refl) (
    cons (accepted_right "x4o" refl (minimal_by (λ i. i - 1) refl) refl (least_of_two exchange refl refl refl refl)) (
    cons (accepted_right "o4x" refl (minimal_by (λ i. 1) refl) refl (least_of_two (identity 2) refl refl refl refl)) (
    cons (accepted_right "x6/2o" refl (minimal_by (λ i. i - 1) refl) refl (least_of_two exchange refl refl refl refl)) (
    cons (accepted_right "x3o" refl (minimal_by (λ i. i - 1) refl) refl (least_of_two exchange refl refl refl refl)) (
    cons (accepted_right "(0)" refl (minimal_by (λ i. i) refl) refl (only_layout (identity 1) refl (omega arith))) (
    cons (accepted_right "(-0)" refl (minimal_by (λ i. i) refl) refl (only_layout (identity 1) refl (omega arith))) (
    cons (accepted_right "x4o3o" refl (minimal_by (λ i. i - 1) refl) refl tt) (
    cons (accepted_right "x3*a" refl (minimal_by (λ i. i) refl) refl tt) (
    cons (refused_right "x1o" refl refl refl) (
    cons (refused_right "x3o3*a" refl refl refl) (
    cons (refused_right "x4/6o" refl refl refl) (
    cons (refused_right "(inf)" refl refl refl) (
    cons (refused_right "(-Infinity)" refl refl refl) (
    cons (refused_right "(nan)" refl refl refl) (
    cons (refused_right "x1(inf)" refl refl refl) (
    cons (refused_right "ooooooooo(inf)" refl refl refl) (
    cons (refused_right "ooooooooo(inf)" refl refl refl) (
    cons (accepted_right "(inf)" refl (minimal_by (λ i. i) refl) refl (only_layout (identity 1) refl (omega arith))) (
    cons (accepted_right "(-Infinity)" refl (minimal_by (λ i. i) refl) refl (only_layout (identity 1) refl (omega arith))) nil))))))))))))))))))))))))))))))))))

-- ---- what the list tells of a text: of x4o, `text_right "x4o" refl` under `unfolding told texts`

-- the first entry of the text, if there is one
unfoldable pub told : List Entry → String → Option Entry
told [] t = none
told (e ∷ es) t = let r = told es t in pick (eqt t e.text) (some e) r

told_right : {es : List Entry} (t : String) → All RightEntry es → (e : Entry) → told es t ≡ some e → RightEntry e
unfolding told
told_right t nil = λ e h. absurd (none-ne-some e h)
told_right t (cons {x} r rs) =
    picked (λ (o : Option Entry). (e : Entry) → o ≡ some e → RightEntry e) (eqt t x.text) (λ e h. subst RightEntry (some-injective x e h) r) (told_right t rs)

pub text_right : {e : Entry} (t : String) → told texts t ≡ some e → RightEntry e
text_right {e} t h = told_right t texts_right e h

-- a text has one mark only, so the line told is its only one
pub line_right : {e : Entry} → RightEntry e → (b : Bool) → Marks (read e.wish (ascii e.text)) b → answer_of (read e.wish (ascii e.text)) b ≡ ascii e.line
line_right {e} r b m = ap (answer_of (read e.wish (ascii e.text))) (marked_once (read e.wish (ascii e.text)) b e.minimal m r.mark) ∙ r.line
