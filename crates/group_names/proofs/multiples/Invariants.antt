-- `group_names::multiples` meets its contract. The invariant: r is the product of the first k multiples (Orders.antt).
use mathlib.Core.Path.{◌≡◌}
use Rattle.group_names.proofs.Orders.{product}
use Rattle.group_names.proofs.multiples.Given as goal

abbrev pub invariant-loop-k : goal.invariant-loop-k
invariant-loop-k l = l.r ≡ product l.of l.k
