-- `shelf_rescue::rescue` meets its contract; Invariants.antt has the argument.
use mathlib.Core.List.{List}
use mathlib.Core.Logic.{⊎_elim, inl, inr}
use mathlib.Core.Path.{◌≡◌, refl, subst}
use Prim.Native.Nat.{ℕ, ◌/◌, ◌%◌}
use native.Mathlib.Omega.{arith}
use lib.ListN.{length}
use Rattle.cd.specs.Diagrams.{limit}
use Rattle.filing.specs.Records.{record_length}
use Rattle.shelf.specs.Shelves.{place_at}
use Rattle.shelf.proofs.Places.{place_length}
use Rattle.shelf_rescue.specs.Rescues.{Cut, short}
use Rattle.shelf_rescue.proofs.Saving.{saved_none, saved_copied, saved_passed, saved_all}
use Rattle.shelf_rescue.proofs.rescue.Goals as goal
use Rattle.shelf_rescue.proofs.rescue.Goals.{then-m-eq0, else-m-eq0}

cut : (l : List ℕ) → Cut limit l (length l / record_length limit) (length l % record_length limit)
cut l = record { long = omega arith; few = omega arith }

pub returns-then-out-file : goal.returns-then-out-file
returns-then-out-file c = short (cut _) (⊎_elim (λ h. inl h) (λ h. inr h.1) c.then-out-file.either) refl refl refl

pub loop-i-init : goal.loop-i-init
loop-i-init c = (omega arith, saved_none limit _ _ _)

pub put-requires : goal.put-requires
unfolding place_at
put-requires c =
    let e = place_length (record_length limit) c.args.file.now c.loop-i.i (omega arith) in
    rw c.place-x.ensures (omega arith)

pub loop-i-preserved : goal.loop-i-preserved
unfolding place_at
loop-i-preserved c =
    let i = c.loop-i.invariant in
    elim c.if-m-eq0.branch [
      | then-m-eq0 w ↦ (omega arith, rw (w.out-is, w.kept-is, w.last-is, c.place-x.ensures) (saved_copied i.1 c.loop-i.auto.marks (omega arith) (rw c.place-x.ensures at c.mark-m.ensures) (omega arith) w.if-m-eq0.true (rw c.place-x.ensures at w.put.ensures)))
      | else-m-eq0 w ↦ (omega arith, rw (w.out-is, w.kept-is, w.last-is) (saved_passed i.1 c.loop-i.auto.marks (omega arith) (rw c.place-x.ensures at c.mark-m.ensures) w.if-m-eq0.false))
    ]

pub returns : goal.returns
returns c =
    let l = c.loop-i in
    let file = c.args.file.now in
    let e : length file / record_length limit ≡ l.i = omega arith in
    saved_all l.invariant.1 (subst (λ n. Cut limit file n (length file % record_length limit)) e (cut file)) (omega arith) (omega arith)
