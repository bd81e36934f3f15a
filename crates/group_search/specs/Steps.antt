-- What the steps of naming promise each other, over labels and the table of pairs. No public promise leans on this file. N is the limit of nodes.
use Rattle.std.specs.Prelude.{true, List, [], ◌∷◌, ◌++◌, ◌≢◌, ◌≡◌, ℕ, zero, suc, ◌+◌, ◌*◌, ◌/◌, ◌^◌, ◌≤◌, ◌<◌, eqb, length, Option, MatchOption}
use Rattle.float.specs.Pick.{pick}
use Rattle.filing.specs.Numberings.{at}
use Rattle.filing.specs.Sequences.{Agree}
use Rattle.group_names.specs.Named.{group}
use Rattle.group_names.specs.Names.{is_name, rank, entry}
use Rattle.group_names.specs.declared.Group.{Group}
use Rattle.group_names.specs.declared.Name.{Name}
use Rattle.group_names.specs.declared.Name.TheVariants.{A, B, D, E6, E7, E8, F4, H3, H4, I2}

-- ---- the search

-- a whole number in the table of pairs
abbrev pub whole_number : ℕ → ℕ
whole_number m = m * 2 ^ 32 + 1

-- for each of the first k places what the node at place k is to be joined by to the one there
abbrev pub Wants : Name → ℕ → List ℕ → Type 0
Wants x k wanted = (i : ℕ) → i < k → at wanted i ≡ whole_number (entry x i k)

-- u at place i and v at place k are two nodes, and joined as the name wants it
pub record Agrees (N : ℕ) (pairs : List ℕ) (x : Name) (i k u v : ℕ) : Type 0 where
  pub other : u ≢ v
  pub joined : at pairs (N * u + v) ≡ whole_number (entry x i k)

-- v agrees with the nodes at the first k places
abbrev pub Suits : ℕ → List ℕ → Name → (ℕ → ℕ) → ℕ → ℕ → Type 0
Suits N pairs x p k v = (i : ℕ) → i < k → Agrees N pairs x i k (p i) v

-- the first k places have nodes of n, labelled c, that agree
pub record Embeds (N : ℕ) (pairs of : List ℕ) (n c : ℕ) (x : Name) (k : ℕ) (p : ℕ → ℕ) : Type 0 where
  pub within : (i : ℕ) → i < k → p i < n
  pub label : (i : ℕ) → i < k → at of (p i) ≡ c
  pub agree : (i j : ℕ) → i < j → j < k → Agrees N pairs x i j (p i) (p j)

-- from the first k places of p, all m can be filled
abbrev pub GoesOn : ℕ → List ℕ → List ℕ → ℕ → ℕ → Name → ℕ → ℕ → List ℕ → Type 0
GoesOn N pairs of n c x m k p = (q : ℕ → ℕ) × Embeds N pairs of n c x m q × Agree k q (at p)

pub record Ready (N : ℕ) (pairs of : List ℕ) (n c : ℕ) (x : Name) (m k : ℕ) (p : List ℕ) : Type 0 where
  pub few : n ≤ N
  pub small : m ≤ N
  pub depth : k ≤ m
  pub room : length p ≡ N
  pub filled : Embeds N pairs of n c x k (at p)

-- ---- a component's name

-- how many of the first k nodes have the label c
unfoldable pub label_count : List ℕ → ℕ → ℕ → ℕ
label_count of c zero = zero
label_count of c (suc k) = let r = label_count of c k in pick (eqb (at of k) c) (suc r) r

-- a name of m nodes, all of which can be placed in the component
pub record Placed (N : ℕ) (pairs of : List ℕ) (n c m : ℕ) (x : Name) : Type 0 where
  pub valid : is_name x ≡ true
  pub size : rank x ≡ m
  pub places : ℕ → ℕ
  pub embeds : Embeds N pairs of n c x m places

-- p is the number that joins c to another node of its component
abbrev pub Bound : ℕ → List ℕ → List ℕ → ℕ → ℕ → ℕ → Type 0
Bound N pairs of n c p = (v : ℕ) × (v < n) × (at of v ≡ c) × (v ≢ c) × (p ≡ at pairs (N * c + v) / 2 ^ 32)

-- what joins c to another node of its component, if that has one
abbrev pub Bond : ℕ → List ℕ → List ℕ → ℕ → ℕ → Option ℕ → Type 0
Bond N pairs of n c r = MatchOption r ((v : ℕ) → v < n → at of v ≡ c → v ≡ c) (Bound N pairs of n c)

-- the table has each pair of n nodes in both orders
abbrev pub Mirrored : ℕ → ℕ → List ℕ → Type 0
Mirrored N n pairs = (u v : ℕ) → u < n → v < n → at pairs (N * u + v) ≡ at pairs (N * v + u)

-- the names that a component of m nodes may have, if it is joined by p where m is 2
unfoldable pub candidates : ℕ → ℕ → List Name
candidates m p = A m ∷ B m ∷ D m ∷ E6 ∷ E7 ∷ E8 ∷ F4 ∷ H3 ∷ H4 ∷ I2 p ∷ []

-- the name x has as many nodes as c's component, and all can be placed there
abbrev pub Takes : ℕ → List ℕ → List ℕ → ℕ → ℕ → Name → Type 0
Takes N pairs of n c x = Placed N pairs of n c (label_count of c n) x

-- what is known of a component's name
abbrev pub Tells : ℕ → List ℕ → List ℕ → ℕ → ℕ → Option Name → Type 0
Tells N pairs of n c r = MatchOption r ((x : Name) → Takes N pairs of n c x → ⊥) (Takes N pairs of n c)

-- ---- the components, one after another

-- the components whose lowest nodes are below k, by their labels
pub data Walks (N : ℕ) (pairs of : List ℕ) (n : ℕ) : ℕ → List Group → Type 0 where
  none : Walks N pairs of n zero []
  passed : {k : ℕ} {gs : List Group} → Walks N pairs of n k gs → at of k ≢ k → Walks N pairs of n (suc k) gs
  listed : {k : ℕ} {gs : List Group} {x : Name} → Walks N pairs of n k gs → at of k ≡ k → Takes N pairs of n k x → Walks N pairs of n (suc k) (gs ++ (group k x ∷ []))
