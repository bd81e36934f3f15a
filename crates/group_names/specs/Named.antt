-- Document 02, ticket K4: "For every component, in the order of its lowest node, give the name and the group's order". Components are those of `Minimal`: over
-- stored edges. No limit of nodes stands here but in the places of an answer.
use Rattle.std.specs.Prelude.{List, [], ◌∷◌, ◌++◌, true, ◌≢◌, ◌≡◌, ℕ, zero, suc, ◌≤◌, ◌<◌, length, Result, Ok, Err}
use Rattle.cd.specs.Arrays.{padded}
use Rattle.cd.specs.Diagrams.{Stored, limit}
use Rattle.cd.specs.Minimal.{Linked}
use Rattle.cd.specs.Paths.{Path}
use Rattle.cd.specs.declared.CdError.{CdError}
use Rattle.cd.specs.declared.CdError.TheVariants.{NoName}
use Rattle.filing.specs.Fractions.{Fraction, SameFraction}
use Rattle.tables.specs.Diagrams.{joint}
use Rattle.group_names.specs.Names.{is_name, rank, entry, order}
use Rattle.group_names.specs.declared.Group.{Group}
use Rattle.group_names.specs.declared.Groups.{Groups}
use Rattle.group_names.specs.declared.Name.{Name}
use Rattle.group_names.specs.declared.Name.TheVariants.{A}

-- a whole number as a fraction
abbrev pub over1 : ℕ → Fraction
over1 m = record { num = m; den = 1 }

-- "A component gets a name exactly when some renumbering carries its edges onto that family's": f is such a renumbering, of the component of c. It takes the
-- family's nodes to the component's, different ones to different ones, and leaves out none; any two different ones are joined by a fraction equal to the
-- family's number, a missing edge counting as 2/1. "Rings, lengths and loops play no part": nodes are no argument here, and no node is looked at with itself.
pub record Fits (n : ℕ) (es : List Stored) (c : ℕ) (x : Name) (f : ℕ → ℕ) : Type 0 where
  pub inside : (i : ℕ) → i < rank x → Path (Linked n es) c (f i)
  pub apart : (i j : ℕ) → i < rank x → j < rank x → f i ≡ f j → i ≡ j
  pub all : (v : ℕ) → Path (Linked n es) c v → (i : ℕ) × (i < rank x) × (f i ≡ v)
  pub edges : (i j : ℕ) → i < rank x → j < rank x → i ≢ j → SameFraction (joint es (f i) (f j)) (over1 (entry x i j))

-- the component of c gets the name x
pub record Named (n : ℕ) (es : List Stored) (c : ℕ) (x : Name) : Type 0 where
  pub valid : is_name x ≡ true
  pub places : ℕ → ℕ
  pub fits : Fits n es c x places

-- no name fits the component of c
abbrev pub Nameless : ℕ → List Stored → ℕ → Type 0
Nameless n es c = (x : Name) → Named n es c x → ⊥

-- c is the lowest node of its component
abbrev pub Lowest : ℕ → List Stored → ℕ → Type 0
Lowest n es c = (v : ℕ) → Path (Linked n es) c v → c ≤ v

-- a component by its lowest node, its name and the group's order
abbrev pub group : ℕ → Name → Group
group c x = record { node = c; name = x; order = order x }

-- "For every component, in the order of its lowest node": gs are those whose lowest node is below k
pub data Lists (n : ℕ) (es : List Stored) : ℕ → List Group → Type 0 where
  none : Lists n es zero []
  passed : {k : ℕ} {gs : List Group} → Lists n es k gs → (Lowest n es k → ⊥) → Lists n es (suc k) gs
  listed : {k : ℕ} {gs : List Group} {x : Name} → Lists n es k gs → Lowest n es k → Named n es k x → Lists n es (suc k) (gs ++ (group k x ∷ []))

-- ---- the answer

-- what stands in places past the count
abbrev pub blank : Group
blank = record { node = 0; name = A 0; order = 0 }

abbrev pub listing : List Group → Groups
listing gs = record { at = padded blank limit gs; count = length gs }

-- of n nodes and stored edges: all components, or, "it refuses the first component that no name fits (21, its lowest node)"
pub data Names (n : ℕ) (es : List Stored) (r : Result Groups CdError) : Type 0 where
  named : {gs : List Group} → Lists n es n gs → r ≡ Ok (listing gs) → Names n es r
  nameless : {c : ℕ} {gs : List Group} → c < n → Lists n es c gs → Lowest n es c → Nameless n es c → r ≡ Err (NoName c) → Names n es r
