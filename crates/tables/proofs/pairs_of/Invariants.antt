-- `tables::pairs_of` meets its contract. The invariant: at each place below k stands the number of its pair.
use Prim.Native.Nat.{ℕ, ◌*◌, ◌/◌, ◌%◌, ◌<◌}
use mathlib.Core.List.{List}
use mathlib.Core.Path.{◌≡◌}
use lib.ListN.{length, get_or}
use Rattle.cd.specs.Diagrams.{limit, none, place_of}
use Rattle.cd.specs.declared.Pair.{Pair}
use Rattle.tables.specs.Tables.{pair_number}
use Rattle.tables.proofs.pairs_of.Given as goal

-- the number of the pair of k / 9 and k % 9
abbrev pub number_at : List Pair → ℕ → ℕ
number_at ps k = pair_number (get_or ps (place_of (k / limit) (k % limit)) none)

abbrev pub invariant-loop-k : goal.invariant-loop-k
invariant-loop-k l = (length l.out ≡ limit * limit) × ((i : ℕ) → i < l.k → get_or l.out i 0 ≡ number_at l.cd.pairs i)
