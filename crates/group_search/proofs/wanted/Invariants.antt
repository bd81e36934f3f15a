-- `group_search::wanted` meets its contract. The invariant: the first i are filled.
use Prim.Native.Nat.{ℕ, ◌<◌}
use mathlib.Core.Path.{◌≡◌}
use lib.ListN.{length}
use Rattle.cd.specs.Diagrams.{limit}
use Rattle.filing.specs.Numberings.{at}
use Rattle.group_names.specs.Names.{entry}
use Rattle.group_search.specs.Steps.{whole_number}
use Rattle.group_search.proofs.wanted.Given as goal

abbrev pub invariant-loop-i : goal.invariant-loop-i
invariant-loop-i l = (length l.out ≡ limit) × ((j : ℕ) → j < l.i → at l.out j ≡ whole_number (entry l.x j l.k))
