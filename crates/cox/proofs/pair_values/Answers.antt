-- `cox::pair_values` meets its contract; Invariants.antt has the argument.
use mathlib.Core.Path.{◌≡◌}
use native.Mathlib.Omega.{arith}
use borrow.Author.Rules.{rules}
use lib.ListN.{length}
use Rattle.cd.specs.Diagrams.{none, pair_limit}
use Rattle.cd.proofs.Arrays.{filled_next, filled_all}
use Rattle.cox.specs.Shown.{pair_value}
use Rattle.cox.proofs.pair_values.Goals as goal

pub loop-k-preserved : goal.loop-k-preserved
loop-k-preserved c =
    let l = c.loop-k in
    let ps = c.args.pairs in
    let long : length ps ≡ pair_limit = search rules in
    (search rules, rw c.pair_value.ensures (filled_next pair_value ps l.values l.k l.invariant.1 none (omega arith) (omega arith)))

pub returns : goal.returns
returns c =
    let l = c.loop-k in
    let ps = c.args.pairs in
    let long : length ps ≡ pair_limit = search rules in
    filled_all pair_value ps l.values l.k l.invariant.1 (omega arith) (omega arith)
