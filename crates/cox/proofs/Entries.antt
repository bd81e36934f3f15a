-- The matrix of a diagram, read from the places of its pairs. The first stored edge that joins two nodes is what both `between`s tell, by induction on the
-- stored edges; a pair that nothing joins has the rank 0, and no other. Assumes nothing.
use mathlib.Core.Bool.{Bool, true, false}
use mathlib.Core.List.{List, [], ◌∷◌, map}
use mathlib.Core.Path.{◌≡◌, refl, ap, ◌∙◌}
use Prim.Native.Nat.{ℕ, ◌+◌, ◌<◌}
use native.Mathlib.Omega.{arith}
use borrow.Author.Tests.{ne_eqb}
use lib.Dec.{eqb}
use lib.Ieee.{Float, nan}
use lib.ListN.{get_or}
use Rattle.float.specs.Pick.{pick}
use Rattle.cd.specs.Diagrams.{Stored, joins, between as pair_between, limit, place_of, cd_of}
use Rattle.cd.specs.Arrays.{triangle}
use Rattle.cd.specs.declared.Cd.{Cd}
use Rattle.cd.specs.declared.Edge.{Edge}
use Rattle.cd.specs.declared.Node.{Node}
use Rattle.cd.specs.declared.Pair.{Pair}
use Rattle.cd.proofs.Arrays.{map_triangle, get_or_triangle}
use Rattle.cd.proofs.Stored.{between_symmetric, pairs_held}
use Rattle.cox.specs.Matrix.{quotient, between, matrix}
use Rattle.cox.specs.Shown.{pair_value, entries}
use Rattle.cox.specs.Squares.{one}

-- of an edge and what is told without it, the one picked
value_picked : (t : Bool) (k : ℕ) (e : Edge) (q : Pair) (x : Float) → 0 < k → pair_value q ≡ x → pair_value (pick t (record { rank = k; edge = e }) q) ≡ pick t (quotient e) x
unfolding pair_value
value_picked true k e q x l h = rw (ne_eqb k 0 (omega arith))
value_picked false k e q x l h = h

pub value_between : (k : ℕ) (es : List Stored) (i j : ℕ) → 0 < k → pair_value (pair_between k es i j) ≡ between es i j
unfolding pair_between between pair_value
value_between k [] i j l = refl
value_between k (s ∷ es) i j l =
    value_picked (joins i j s) k s.edge (pair_between (k + 1) es i j) (between es i j) l (value_between (k + 1) es i j (omega arith))

pub entries_held : (cd : Cd) (ns : List Node) (es : List Stored) → cd ≡ cd_of ns es → (i j : ℕ) → i < limit → j < limit → entries (map pair_value cd.pairs) i j ≡ matrix es i j
unfolding entries matrix
entries_held cd ns es held i j h l =
    let value : ℕ → ℕ → Float = λ x y. pair_value (pair_between 1 es x y) in
    let told : map pair_value cd.pairs ≡ triangle value limit = ap (map pair_value) (pairs_held cd ns es held) ∙ map_triangle pair_value (pair_between 1 es) limit in
    ap (pick (eqb i j) one)
    (ap (λ vs. get_or vs (place_of i j) nan) told
    ∙ get_or_triangle value nan limit i j (λ x y. ap pair_value (between_symmetric 1 es x y)) h l
    ∙ value_between 1 es i j (omega arith))
