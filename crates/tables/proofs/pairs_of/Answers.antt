-- `tables::pairs_of` meets its contract; Invariants.antt has the argument.
use mathlib.Core.Path.{◌≡◌, ap, ◌∙◌}
use native.Mathlib.Omega.{arith}
use borrow.Author.Rules.{rules}
use lib.ListN.{get_or}
use Rattle.std.proofs.lemmas.List.Edits.{fill_by_more}
use Rattle.cd.specs.Diagrams.{none}
use Rattle.tables.specs.Tables.{pair_number}
use Rattle.tables.proofs.pairs_of.Goals as goal
use Rattle.tables.proofs.pairs_of.Invariants.{number_at}

pub loop-k-preserved : goal.loop-k-preserved
loop-k-preserved c =
    let l = c.loop-k in
    let here : c.pair_number.result ≡ number_at c.args.cd.pairs l.k = c.pair_number.ensures ∙ ap (λ q. pair_number (get_or c.args.cd.pairs q none)) c.pair_place.ensures.0 in
    (search rules, rw here (fill_by_more (number_at c.args.cd.pairs) l.out l.k 0 (omega arith) l.invariant.1))
