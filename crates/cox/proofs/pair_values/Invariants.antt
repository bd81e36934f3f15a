-- `cox::pair_values` meets its contract. The invariant: the first k values are those of their pairs.
use mathlib.Core.List.{map}
use mathlib.Core.Path.{◌≡◌}
use lib.ListN.{length, take}
use Rattle.cd.specs.Diagrams.{pair_limit}
use Rattle.cox.specs.Shown.{pair_value}
use Rattle.cox.proofs.pair_values.Given as goal

abbrev pub invariant-loop-k : goal.invariant-loop-k
invariant-loop-k l = (length l.values ≡ pair_limit) × (take l.k l.values ≡ take l.k (map pair_value l.fn.pairs))
