-- `cox::matrix` meets its contract: the entries by the places of their pairs are the matrix's.
use mathlib.Core.Path.{◌≡◌, ap, ap₂, ◌∙◌}
use borrow.Author.Rules.{rules}
use Rattle.cd.proofs.Stored.{count_held}
use Rattle.cox.specs.Matrix.{matrix}
use Rattle.cox.specs.Shown.{entries, cox_of}
use Rattle.cox.specs.declared.Cox.{Cox}
use Rattle.cox.proofs.Entries.{entries_held}
use Rattle.cox.proofs.matrix.Goals as goal

pub returns : goal.returns
unfolding cox_of
returns c ns es held =
    let cd = c.args.cd in
    ap₂ {C = Cox} (λ z n. record { at = z; count = n })
    (c.square.ensures (matrix es) (λ i j x h l p.
    let e : x ≡ entries c.pair_values-values.result i j = search rules in
    e ∙ ap (λ vs. entries vs i j) c.pair_values-values.ensures ∙ entries_held cd ns es held i j h l))
    (count_held cd ns es held)
