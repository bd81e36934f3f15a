-- The labelling on its way: what the code has of pairs and labels, and what holds between two pairs. No limit of nodes stands here.
use Rattle.std.specs.Prelude.{ℕ, ◌≤◌, ◌<◌, Bool, true, false, List, map, ◌≡◌, ltb, eqb, get_or}
use Rattle.float.specs.Pick.{pick}
use Rattle.cd.specs.Diagrams.{place_of}
use Rattle.cd.specs.Paths.{Path}
use Rattle.cd.specs.declared.Cd.{Cd}
use Rattle.cd.specs.declared.Pair.{Pair}

-- of each pair, whether an edge is stored
abbrev pub joined_in : List Pair → List Bool
joined_in = map (λ (p : Pair). ltb 0 p.rank)

-- i and j are two of n nodes, or one, and the mark of their pair is set
pub record Marked (n : ℕ) (marks : List Bool) (i j : ℕ) : Type 0 where
  pub first : i < n
  pub other : j < n
  pub marked : get_or marks (place_of i j) false ≡ true

-- the label of a node, of a list of labels
abbrev pub label_in : List ℕ → ℕ → ℕ
label_in of k = get_or of k 0

-- a label, with `to` in the place of `from`
unfoldable pub instead : ℕ → ℕ → ℕ → ℕ
instead from to c = pick (eqb c from) to c

-- each label is a node of its own component and no higher than any node that has it; the pairs below row j have been met, and of row j those below i
pub record Partway (E : ℕ → ℕ → Type 0) (n j i : ℕ) (of : ℕ → ℕ) : Type 0 where
  pub member : (a : ℕ) → a < n → Path E a (of a)
  pub low : (a : ℕ) → a < n → of a ≤ a
  pub rows : (p q : ℕ) → p < q → q < j → E p q → of p ≡ of q
  pub row : (p : ℕ) → p < i → E p j → of p ≡ of j

-- the same of the pairs that a diagram's ranks mark
abbrev pub Met : Cd → ℕ → ℕ → List ℕ → Type 0
Met cd j i of = Partway (Marked cd.count (joined_in cd.pairs)) cd.count j i (label_in of)
