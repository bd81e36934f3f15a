-- A renumbering takes each component of one diagram to a component of the other, no two to one, and the names that fit it with it; a component has one name only. So
-- the lists of names are one multiset, and where one diagram has a component that no name fits, so has the other. Assumes nothing.
use Rattle.std.specs.Prelude.{Result}
use mathlib.Core.Bool.{Bool, true, false, false≢true}
use mathlib.Core.List.{List}
use mathlib.Core.Logic.{◌≢◌}
use mathlib.Core.Path.{◌≡◌, refl, sym, ap, ap₂, ◌∙◌, subst}
use Prim.Native.Nat.{ℕ, zero, ◌≤◌, ◌<◌}
use native.Mathlib.Nat.{le_antisymm}
use native.Mathlib.Omega.{arith}
use lib.ListN.{length, get_or}
use Rattle.cd.specs.Diagrams.{Stored, is_joined, limit}
use Rattle.cd.specs.Minimal.{Linked}
use Rattle.cd.specs.Paths.{Path}
use Rattle.cd.specs.declared.CdError.{CdError}
use Rattle.cd.specs.declared.Node.{Node}
use Rattle.cd.proofs.Arrays.{get_or_padded}
use Rattle.group_names.specs.Named.{Named, Nameless, Lowest, Lists, Names, blank, listing}
use Rattle.group_names.specs.Named as naming
use Rattle.group_names.specs.Names.{order}
use Rattle.group_names.specs.declared.Group.{Group}
use Rattle.group_names.specs.declared.Groups.{Groups}
use Rattle.group_names.proofs.Listed.{lists_short, entry_at, entries_apart, entry_of}
use Rattle.group_names.proofs.Matching.{Partners, choose, matched_le}
use Rattle.group_names.proofs.OneName.{one_name}
use Rattle.minimal.proofs.Labelling.{labelling}
use Rattle.minimal.proofs.Paths.{path_join, linked_turned, path_turned, path_in}
use Rattle.tables.specs.Diagrams.{joint}
use Rattle.lexicon_articles.specs.Articles.{SameMultiset, name_at, SameNames, named, nameless}
use Rattle.lexicon_articles.proofs.Carried.{Carried, turned, path_uncarried, named_along, named_carried}

-- ---- the lowest node of a component

module _ (n : ℕ) (es : List Stored) where
  linked_decided : (i j : ℕ) → i < n → j < n → Dec (Linked n es i j)
  linked_decided i j h k = go (is_joined es i j) refl
    where
      go : (b : Bool) → is_joined es i j ≡ b → Dec (Linked n es i j)
      go true e = yes (record { first = h; other = k; stored = e })
      go false e = no (λ l. false≢true (sym e ∙ l.stored))

  record Bottom (v : ℕ) : Type 0 where
    pub node : ℕ
    pub inside : node < n
    pub path : Path (Linked n es) v node
    pub lowest : Lowest n es node

  bottom : (v : ℕ) → v < n → Bottom v
  bottom v h =
      let (f, w) = labelling (Linked n es) n linked_turned linked_decided (λ i j e. e.other) in
      let p = w.member v h in
      let k = path_in h p in
      record { node = f v; inside = k; path = p; lowest = λ u q. omega (arith, w.lowest (f v) u k (path_in k q) q, w.same v (f v) h k p) }

-- ---- lists of two diagrams

module _ {ns ms : List Node} {es fs : List Stored} (c : Carried ns es ms fs) {gs hs : List Group} (ls : Lists (length ns) es (length ns) gs) (lt : Lists (length ms) fs (length ms) hs) where
  abbrev left : ℕ → Group
  left i = get_or gs i blank

  abbrev right : ℕ → Group
  right j = get_or hs j blank

  -- the component at place i is carried to the one at place j
  abbrev Meets : ℕ → ℕ → Type 0
  Meets i j = Path (Linked (length ms) fs) (c.to (left i).node) (right j).node

  each : Partners (length gs) (length hs) Meets
  each i h =
      let v = c.to (left i).node in
      let b = bottom (length ms) fs v (c.to_in (left i).node (entry_at ls i h).below) in
      let (j, k, e) = entry_of lt b.node b.inside b.lowest in
      (j, k, subst (Path (Linked (length ms) fs) v) (sym e) b.path)

  apart : (i k j : ℕ) → i < length gs → k < length gs → Meets i j → Meets k j → i ≡ k
  apart i k j h l p q =
      let a = entry_at ls i h in
      let b = entry_at ls k l in
      let there = path_uncarried c (left i).node (c.to (left k).node) a.below (path_join p (path_turned q)) in
      let here : Path (Linked (length ns) es) (left i).node (left k).node = subst (Path (Linked (length ns) es) (left i).node) (c.from_to (left k).node b.below) there in
      entries_apart ls i k h l (le_antisymm (a.lowest (left k).node here) (b.lowest (left i).node (path_turned here)))

  no_more : length gs ≤ length hs
  no_more = matched_le Meets each apart

  same_name : ((u v : ℕ) → u < length ms → v < length ms → u ≢ v → zero < (joint fs u v).den) → (i j : ℕ) → i < length gs → j < length hs → Meets i j → (left i).name ≡ (right j).name
  same_name positive i j h k p =
      let a = entry_at ls i h in
      let b = entry_at lt j k in
      one_name (length ms) fs (right j).node b.below positive (named_along p (named_carried c a.below a.named)) b.named

-- if all components of one have names, none of the other is nameless
none_nameless : {ns ms : List Node} {es fs : List Stored} (c : Carried ns es ms fs) {gs : List Group} {v : ℕ} → Lists (length ns) es (length ns) gs → v < length ms → Nameless (length ms) fs v → ⊥
none_nameless {ns} {ms} {es} {fs} c {gs} {v} ls h none =
    let b = bottom (length ns) es (c.from v) (c.from_in v h) in
    let (i, k, e) = entry_of ls b.node b.inside b.lowest in
    let x = (get_or gs i blank).name in
    let d : Named (length ns) es b.node x = subst (λ u. Named (length ns) es u x) e (entry_at ls i k).named in
    none x (subst (λ u. Named (length ms) fs u x) (c.to_from v h) (named_carried c (c.from_in v h) (named_along (path_turned b.path) d)))

module _ {ns ms : List Node} {es fs : List Stored} (c : Carried ns es ms fs) (few-s : length ns ≤ limit) (few-t : length ms ≤ limit)
    (positive : (u v : ℕ) → u < length ms → v < length ms → u ≢ v → zero < (joint fs u v).den) where
  same_multiset : {gs hs : List Group} → Lists (length ns) es (length ns) gs → Lists (length ms) fs (length ms) hs
      → SameMultiset (length gs) (name_at (listing gs)) (length hs) (name_at (listing hs))
  same_multiset {gs} {hs} ls lt = record { size = size; places = g; numbering = record { within = λ i h. omega (arith, size, (met i h).0); apart = places_apart }; same = same }
    where
      size : length gs ≡ length hs
      size = le_antisymm (no_more c ls lt) (no_more (turned c) lt ls)

      g : ℕ → ℕ
      g = (choose (Meets c ls lt) (each c ls lt)).0

      met : (i : ℕ) → i < length gs → (g i < length hs) × Meets c ls lt i (g i)
      met = (choose (Meets c ls lt) (each c ls lt)).1

      places_apart : (i j : ℕ) → i < length gs → j < length gs → g i ≡ g j → i ≡ j
      places_apart i j h k e = apart c ls lt i j (g i) h k (met i h).1 (subst (Meets c ls lt j) (sym e) (met j k).1)

      shown : (l : List Group) (i : ℕ) → i < limit → name_at (listing l) i ≡ ((get_or l i blank).name, (get_or l i blank).order)
      shown l i h = ap (λ (x : Group). (x.name, x.order)) (get_or_padded blank blank limit l i h)

      same : (i : ℕ) → i < length gs → name_at (listing gs) i ≡ name_at (listing hs) (g i)
      same i h =
          let a = met i h in
          let name = same_name c ls lt positive i (g i) h a.0 a.1 in
          let order = (entry_at ls i h).right ∙ ap order name ∙ sym (entry_at lt (g i) a.0).right in
          shown gs i (omega (arith, lists_short ls)) ∙ ap₂ (λ x y. (x, y)) name order ∙ sym (shown hs (g i) (omega (arith, lists_short lt)))

  -- THE SAME NAMES, OR BOTH REFUSED
  pub same_names : {r t : Result Groups CdError} → Names (length ns) es r → Names (length ms) fs t → SameNames r t
  same_names (naming.named ls e) (naming.named lt q) = named e q (same_multiset ls lt)
  same_names (naming.named ls e) (naming.nameless h lt low none q) = absurd (none_nameless c ls h none)
  same_names (naming.nameless h ls low none e) (naming.named lt q) = absurd (none_nameless (turned c) lt h none)
  same_names (naming.nameless h ls low none e) (naming.nameless k lt low' none' q) = nameless e q
