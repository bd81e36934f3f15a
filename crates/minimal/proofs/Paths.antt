-- Paths follow one another, lead back where the relation goes both ways, as stored edges do, and are kept by a relation that has the same steps; so is a labelling.
-- Each by recursion on the path. No limit of nodes stands here. Assumes nothing.
use Prim.Native.Nat.{ℕ, ◌<◌}
use mathlib.Core.List.{List}
use mathlib.Core.Path.{◌∙◌}
use Rattle.cd.specs.Diagrams.{Stored}
use Rattle.cd.specs.Minimal.{Linked}
use Rattle.cd.specs.Paths.{Path, here, on, Labelled}
use Rattle.cd.proofs.Stored.{joined_symmetric}

module _ {E : ℕ → ℕ → Type 0} where
  pub path_join : {i j k : ℕ} → Path E i j → Path E j k → Path E i k
  path_join here q = q
  path_join (on e p) q = on e (path_join p q)

  pub path_back : ((i j : ℕ) → E i j → E j i) → {i j : ℕ} → Path E i j → Path E j i
  path_back turn here = here
  path_back turn (on {i} {j} e p) = path_join (path_back turn p) (on (turn i j e) here)

pub path_along : {E F : ℕ → ℕ → Type 0} → ((i j : ℕ) → E i j → F i j) → {i j : ℕ} → Path E i j → Path F i j
path_along to here = here
path_along to (on {i} {j} e p) = on (to i j e) (path_along to p)

pub labelled_along : {E F : ℕ → ℕ → Type 0} (n : ℕ) (f : ℕ → ℕ) → ((i j : ℕ) → E i j → F i j) → ((i j : ℕ) → F i j → E i j) → Labelled E n f → Labelled F n f
labelled_along n f to from of =
    record {
      same = λ a b ha hb p. of.same a b ha hb (path_along from p);
      joins = λ a b ha hb e. path_along to (of.joins a b ha hb e);
      member = λ a ha. path_along to (of.member a ha);
      lowest = λ a b ha hb p. of.lowest a b ha hb (path_along from p);
    }

-- ---- along stored edges

module _ {n : ℕ} {es : List Stored} where
  pub linked_turned : (i j : ℕ) → Linked n es i j → Linked n es j i
  linked_turned i j e = record { first = e.other; other = e.first; stored = joined_symmetric es j i ∙ e.stored }

  pub path_turned : {i j : ℕ} → Path (Linked n es) i j → Path (Linked n es) j i
  path_turned p = path_back linked_turned p

  pub path_in : {i j : ℕ} → i < n → Path (Linked n es) i j → j < n
  path_in h here = h
  path_in h (on e p) = path_in e.other p
