-- Document 02, ticket K11: "any two accepted texts with equal filing records have the same minimal mark, the same number of stored edges between different nodes,
-- and the same names and orders as a multiset, unless both are refused with 21, whose nodes may differ. Loops may differ between the two and make no difference."
use Rattle.std.specs.Prelude.{List, [], ◌∷◌, ◌≡◌, ℕ, ◌<◌, ltb, eqb, get_or, Result, Ok, Err}
use Rattle.float.specs.Pick.{pick}
use Rattle.cd.specs.Diagrams.{Stored, none, place_of}
use Rattle.cd.specs.declared.Cd.{Cd}
use Rattle.cd.specs.declared.CdError.{CdError}
use Rattle.cd.specs.declared.CdError.TheVariants.{NoName}
use Rattle.filing.specs.Counts.{pair_count}
use Rattle.filing.specs.Numberings.{Numbering}
use Rattle.group_names.specs.Named.{blank}
use Rattle.group_names.specs.declared.Groups.{Groups}
use Rattle.group_names.specs.declared.Name.{Name}
use Rattle.lexicon.specs.declared.Reading.{Reading}

-- ---- "stored edges between different nodes"

unfoldable pub without_loops : List Stored → List Stored
without_loops [] = []
without_loops (s ∷ es) = let r = without_loops es in pick (eqb s.first s.other) r (s ∷ r)

-- their number, of a diagram as it is answered: the pairs of different nodes that have a rank
abbrev pub edge_count : Cd → ℕ
edge_count cd = pair_count (λ i j. ltb 0 (get_or cd.pairs (place_of i j) none).rank) cd.count

-- ---- "the same names and orders as a multiset"

-- f 0, .., f (n − 1) and g 0, .., g (m − 1) are one multiset: some renumbering takes each place to a place that has the same
pub record SameMultiset {A : Type 0} (n : ℕ) (f : ℕ → A) (m : ℕ) (g : ℕ → A) : Type 0 where
  pub size : n ≡ m
  pub places : ℕ → ℕ
  pub numbering : Numbering n places
  pub same : (i : ℕ) → i < n → f i ≡ g (places i)

-- the name and the order at a place
abbrev pub name_at : Groups → ℕ → Name × ℕ
name_at r i = ((get_or r.at i blank).name, (get_or r.at i blank).order)

-- "unless both are refused with 21, whose nodes may differ"
pub data SameNames (r t : Result Groups CdError) : Type 0 where
  named : {g h : Groups} → r ≡ Ok g → t ≡ Ok h → SameMultiset g.count (name_at g) h.count (name_at h) → SameNames r t
  nameless : {c d : ℕ} → r ≡ Err (NoName c) → t ≡ Err (NoName d) → SameNames r t

-- ---- what an article shows of a text: of the answers of `read` and `names` to one, and to another
pub record SameArticle (p : Reading) (r : Result Groups CdError) (q : Reading) (t : Result Groups CdError) : Type 0 where
  pub mark : p.minimal ≡ q.minimal
  pub edges : edge_count p.cd ≡ edge_count q.cd
  pub names : SameNames r t
