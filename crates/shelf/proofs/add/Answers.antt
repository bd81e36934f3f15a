-- `shelf::add` meets its contract.
use mathlib.Core.Path.{refl}
use native.Mathlib.Omega.{arith}
use Rattle.std.proofs.lemmas.Result.{err_from_is_err_and}
use Rattle.cd.proofs.Decided.{refutes}
use Rattle.shelf.specs.Adds.{refused}
use Rattle.shelf.proofs.Outcomes.{found_refused, add_present, place_fits, add_short, found_length, add_absent}
use Rattle.shelf.proofs.add.Goals as goal

pub returns-in_err-found : goal.returns-in_err-found
returns-in_err-found c =
    let p = err_from_is_err_and c.from_residual.result c.from_residual.ensures.1 in
    refused (found_refused _ c.in_err-found.ensures refl) (rw (p.1, p.2)) refl

pub returns-then-found : goal.returns-then-found
returns-then-found c = add_present c.in_ok-found.ensures _ c.if-found.true

pub returns-then-not-fits : goal.returns-then-not-fits
returns-then-not-fits c =
    let no = refutes c.if-not-fits.ensures refl in
    add_short c.in_ok-found.ensures _ c.if-found.false (omega arith)

pub insert-requires : goal.insert-requires
insert-requires c =
    let g = c.if-not-fits.ensures.only_when refl in
    let x = found_length c.in_ok-found.ensures c.if-found.false in
    (place_fits c.in_ok-found.ensures c.if-found.false, omega arith)

pub returns : goal.returns
returns c =
    add_absent c.in_ok-found.ensures _ c.if-found.false (c.if-not-fits.ensures.only_when refl) c.insert.ensures
