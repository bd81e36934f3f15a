-- Document 01, "Reading": "A diagram is minimal when each component, over stored edges, has a ringed node; snub doesn't count." No limit of nodes stands here.
use Rattle.std.specs.Prelude.{ℕ, ◌<◌, Bool, true, false, List, ◌≡◌, length, get_or}
use Rattle.cd.specs.Diagrams.{Stored, is_joined}
use Rattle.cd.specs.Paths.{Path}
use Rattle.cd.specs.declared.Node.{Node}
use Rattle.cd.specs.declared.Node.TheVariants.{Unringed, Ringed, Snub}

-- "snub doesn't count"
unfoldable pub is_ringed : Node → Bool
is_ringed Unringed = false
is_ringed (Ringed v) = true
is_ringed (Snub v) = false

-- i is a ringed node
pub record RingedAt (ns : List Node) (i : ℕ) : Type 0 where
  pub inside : i < length ns
  pub ringed : is_ringed (get_or ns i Unringed) ≡ true

-- i and j are two of n nodes, or one, and an edge is stored between them
pub record Linked (n : ℕ) (es : List Stored) (i j : ℕ) : Type 0 where
  pub first : i < n
  pub other : j < n
  pub stored : is_joined es i j ≡ true

-- i's component has a ringed node
pub record RingNear (ns : List Node) (es : List Stored) (i : ℕ) : Type 0 where
  pub at : ℕ
  pub path : Path (Linked (length ns) es) i at
  pub ring : RingedAt ns at

-- "each component .. has a ringed node": whichever node one starts from, a path leads to one
abbrev pub Minimal : List Node → List Stored → Type 0
Minimal ns es = (i : ℕ) → i < length ns → RingNear ns es i

-- r is true exactly when P holds
pub record Decides (P : Type 0) (r : Bool) : Type 0 where
  pub only_when : r ≡ true → P
  pub when : P → r ≡ true
