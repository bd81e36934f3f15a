-- The mark of a pair says whether a stored edge joins it, so the marks and the stored edges link the same nodes, and a labelling by the marks is one by the edges.
-- Assumes nothing.
use Prim.Native.Nat.{ℕ, ◌≤◌, ◌<◌}
use mathlib.Core.Bool.{Bool, false}
use mathlib.Core.List.{List}
use mathlib.Core.Path.{◌≡◌, sym, ap, ◌∙◌}
use native.Mathlib.Omega.{arith}
use lib.Dec.{ltb}
use lib.ListN.{length, get_or, get_or-map}
use Rattle.cd.specs.Arrays.{triangle}
use Rattle.cd.specs.Diagrams.{Stored, is_joined, none, between, limit, place_of, cd_of}
use Rattle.minimal.specs.Labels.{joined_in, Marked}
use Rattle.cd.specs.Minimal.{Linked}
use Rattle.cd.specs.Paths.{Labelled}
use Rattle.cd.specs.declared.Cd.{Cd}
use Rattle.cd.specs.declared.Node.{Node}
use Rattle.cd.specs.declared.Pair.{Pair}
use Rattle.cd.proofs.Arrays.{place_symmetric}
use Rattle.minimal.proofs.Paths.{labelled_along}
use Rattle.cd.proofs.Stored.{rank_joined, loaded, count_held, pairs_held}

pub marked_turn : (n : ℕ) (marks : List Bool) (i j : ℕ) → Marked n marks i j → Marked n marks j i
marked_turn n marks i j e = record { first = e.other; other = e.first; marked = rw (place_symmetric i j) at e.marked }

pub mark_joined : (es : List Stored) (i j : ℕ) → i < limit → j < limit → get_or (joined_in (triangle (between 1 es) limit)) (place_of i j) false ≡ is_joined es i j
mark_joined es i j p q =
    let has : Pair → Bool = λ (p : Pair). ltb 0 p.rank in
    get_or-map has (triangle (between 1 es) limit) (place_of i j) none ∙ ap has (loaded es i j none p q) ∙ rank_joined 1 es i j (omega arith)

module _ (es : List Stored) (n : ℕ) (few : n ≤ limit) (i j : ℕ) where
  marked_linked : Marked n (joined_in (triangle (between 1 es) limit)) i j → Linked n es i j
  marked_linked e = record { first = e.first; other = e.other; stored = sym (mark_joined es i j (omega arith) (omega arith)) ∙ e.marked }

  linked_marked : Linked n es i j → Marked n (joined_in (triangle (between 1 es) limit)) i j
  linked_marked e = record { first = e.first; other = e.other; marked = mark_joined es i j (omega arith) (omega arith) ∙ e.stored }

pub labelled_stored : (cd : Cd) (ns : List Node) (es : List Stored) → cd ≡ cd_of ns es → cd.count ≤ limit → (f : ℕ → ℕ) → Labelled (Marked cd.count (joined_in cd.pairs)) cd.count f → Labelled (Linked (length ns) es) (length ns) f
labelled_stored cd ns es held few f of =
    let n = length ns in
    let few_nodes : n ≤ limit = rw (count_held cd ns es held) at few in
    labelled_along n f (marked_linked es n few_nodes) (linked_marked es n few_nodes) (rw (count_held cd ns es held, pairs_held cd ns es held) at of)
