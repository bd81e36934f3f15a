-- `readback::read` meets its contract: bytes that spell no diagram, or are not its layout, are laid out for none; of its layouts the smallest is read back as it, and
-- any other is 22 (proofs/Tested.antt).
use Prim.Native.Nat.{◌≤◌}
use mathlib.Core.Path.{◌≡◌, refl, sym, ap, ◌∙◌, subst}
use lib.ListN.{length}
use Rattle.std.specs.Prelude.{Ok}
use Rattle.cd.specs.Diagrams.{limit}
use Rattle.cd.proofs.Stored.{count_held}
use Rattle.cd.proofs.Decided.{refutes}
use Rattle.filing.specs.Numberings.{Numbering, at, plain}
use Rattle.filing.specs.Readable.{spelled}
use Rattle.filing.specs.Records.{record_length}
use Rattle.parse.specs.Reading.{Reading, answer}
use Rattle.tables.specs.Diagrams.{diagram}
use Rattle.tables.specs.Tables.{IsKept, entries, Holds, table_layout}
use Rattle.tables.proofs.TableLayouts.{numbers_held}
use Rattle.readback.specs.ReadBack.{ReadBack, wrong_length, no_diagram}
use Rattle.readback.proofs.ReadBackLaws.{laid_out_kept}
use Rattle.readback.proofs.SpelledLaws.{read_back, spelled_is_diagram, spelled_is_kept, spelled_numbers}
use Rattle.readback.proofs.Tested.{plain_numbers, not_laid, not_smallest, read_smallest}
use Rattle.readback.proofs.read.Goals as goal
use Rattle.readback.proofs.read.Goals.{In-Ok, After-of-t, Else-not-is_layout}

pub returns-in_default : goal.returns-in_default
unfolding answer
returns-in_default c = (_, wrong_length c.in_default.ensures.1, refl)

-- the array is the slice, whose length is a record's
long : (c : In-Ok) → length c.in-Ok.bytes.now ≡ record_length limit
long c = ap length c.in-Ok.ensures.1.same ∙ c.in-Ok.ensures.1.long

read_from : (c : In-Ok) {x : Reading} → ReadBack limit c.in-Ok.bytes.now x → ReadBack limit c.args.s.now x
read_from c {x} = subst (λ l. ReadBack limit l x) c.in-Ok.ensures.1.same

pub returns-then-not-is_spelled : goal.returns-then-not-is_spelled
unfolding answer
returns-then-not-is_spelled c =
    let o = (goal.at.returns-then-not-is_spelled c).In-Ok in
    (_, read_from o (no_diagram (long o) (λ r. refutes c.if-not-is_spelled.ensures refl (laid_out_kept limit _ r))), refl)

pub of-t-requires : goal.of-t-requires
unfolding diagram
of-t-requires c =
    let w = (c.if-not-is_spelled.ensures.only_when refl).is in
    (numbers_held c.spelled-cd.result _ _ c.spelled-cd.ensures (spelled_numbers limit _ w), subst (λ n. n ≤ limit) (sym (count_held _ _ _ c.spelled-cd.ensures)) (spelled_is_diagram limit _ w).few)

-- what the bytes spell is a diagram in lowest terms, and the tables hold it
kept : (o : After-of-t) → IsKept limit (spelled limit o.in-Ok.bytes.now)
kept o = o.if-not-is_spelled.ensures.only_when refl

holds : (o : After-of-t) → Holds limit (entries o.of-t.result) (read_back limit o.in-Ok.bytes.now)
holds o = o.of-t.ensures.1 _ _ o.spelled-cd.ensures (spelled_is_kept limit _ (kept o))

pub is_layout-requires : goal.is_layout-requires
is_layout-requires c =
    let d = (goal.at.is_layout-requires c).After-of-t in
    subst (λ p. Numbering c.of-t.result.count (at p)) (sym c.plain.ensures) (plain_numbers limit _ (kept d).is _ (holds d))

pub returns-then-not-is_layout : goal.returns-then-not-is_layout
unfolding answer
returns-then-not-is_layout c =
    let o = (goal.at.returns-then-not-is_layout c).In-Ok in
    let d = (goal.at.returns-then-not-is_layout c).After-of-t in
    (_, read_from o (no_diagram (long o) (not_laid limit _ (kept d).is _ (holds d) (λ e. refutes c.if-not-is_layout.ensures refl (rw c.plain.ensures e)))), refl)

-- the bytes are the layout as it stands
laid : (c : Else-not-is_layout) → c.in-Ok.bytes.now ≡ table_layout limit (entries c.of-t.result) (at (plain limit))
laid c = rw c.plain.ensures at (c.if-not-is_layout.ensures.only_when refl)

pub returns-then-not-is_smallest : goal.returns-then-not-is_smallest
unfolding answer
returns-then-not-is_smallest c =
    let o = (goal.at.returns-then-not-is_smallest c).In-Ok in
    let d = (goal.at.returns-then-not-is_smallest c).After-of-t in
    let e = laid (goal.at.returns-then-not-is_smallest c).Else-not-is_layout in
    (_, read_from o (not_smallest limit _ (kept d).is _ (holds d) e (refutes c.if-not-is_smallest.ensures refl)), refl)

pub returns : goal.returns
unfolding answer
returns c =
    let o = (goal.at.returns c).In-Ok in
    let d = (goal.at.returns c).After-of-t in
    let e = laid (goal.at.returns c).Else-not-is_layout in
    (_, read_from o (read_smallest limit _ (kept d).is _ (holds d) e (c.if-not-is_smallest.ensures.only_when refl)), ap Ok c.spelled-cd.ensures)
