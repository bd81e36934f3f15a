-- Document 01, "Filing record": a text's "diagram is its nodes in the order read, with the edges stored". How the code holds it is `cd_of`.
use Rattle.std.specs.Prelude.{ℕ, ◌+◌, ◌*◌, ◌/◌, Bool, false, ◌&&◌, ◌||◌, List, [], ◌∷◌, map, ltb, eqb, length}
use Rattle.float.specs.Pick.{pick}
use Rattle.cd.specs.Arrays.{padded, triangle}
use Rattle.cd.specs.declared.Cd.{Cd}
use Rattle.cd.specs.declared.Edge.{Edge}
use Rattle.cd.specs.declared.Node.{Node}
use Rattle.cd.specs.declared.Node.TheVariants.{Unringed}
use Rattle.cd.specs.declared.Pair.{Pair}
use Rattle.cd.specs.declared.Place.{Place}

-- a stored edge: the nodes that it joins, as they were queued, and its fraction
pub record Stored : Type 0 where
  pub first : ℕ
  pub other : ℕ
  pub edge : Edge

-- the edge joins i and j, "the pair, in either order"
unfoldable pub joins : ℕ → ℕ → Stored → Bool
joins i j s = (eqb s.first i && eqb s.other j) || (eqb s.first j && eqb s.other i)

-- some stored edge joins i and j
unfoldable pub is_joined : List Stored → ℕ → ℕ → Bool
unfolding joins
is_joined [] i j = false
is_joined (s ∷ ss) i j = joins i j s || is_joined ss i j

abbrev pub none : Pair
none = record { rank = 0; edge = record { num = 0; den = 0 } }

-- the first of the stored edges that joins i and j, with its rank, the list's first having the rank k; or none
unfoldable pub between : ℕ → List Stored → ℕ → ℕ → Pair
unfolding joins
between k [] i j = none
between k (s ∷ ss) i j = let r = between (k + 1) ss i j in pick (joins i j s) (record { rank = k; edge = s.edge }) r

-- ---- how the code holds a diagram

-- the limit of nodes, and how many pairs they have, loops included
abbrev pub limit : ℕ
limit = 9

abbrev pub pair_limit : ℕ
pair_limit = limit * (limit + 1) / 2

abbrev pub place : Node → Place
place n = record { node = n }

-- the place of a pair: {a, b} with a ≤ b at b×(b+1)/2 + a
unfoldable pub place_of : ℕ → ℕ → ℕ
place_of a b = pick (ltb a b) (b * (b + 1) / 2 + a) (a * (a + 1) / 2 + b)

-- nodes and pairs in their places, nothing in the rest
unfoldable pub cd_of : List Node → List Stored → Cd
unfolding padded triangle between
cd_of ns es = record { nodes = padded (place Unringed) limit (map place ns); count = length ns; pairs = triangle (between 1 es) limit; edges = length es }
