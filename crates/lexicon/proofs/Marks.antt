-- The minimal mark: a text has one only, and tests that antt computes find it. A diagram is minimal where steps along stored edges lead from each node to a
-- ringed one; it is not where some nodes, none of them ringed, have no stored edge to the others, since no path leaves them. No limit of nodes stands here.
-- Assumes nothing.
use Prim.Native.Nat.{ℕ, zero, suc, ◌<◌}
use mathlib.Core.Bool.{Bool, true, false, not, ◌&&◌, ◌||◌, true≢false, false≢true, and-eq-true_iff}
use mathlib.Core.List.{List}
use mathlib.Core.Path.{◌≡◌, refl, sym, ap, ◌∙◌}
use native.Mathlib.Decide.{dec_lt}
use native.Mathlib.Nat.{not-suc-le-zero}
use native.Mathlib.Omega.{arith}
use borrow.Author.Tests.{ltb-true}
use lib.Dec.{ltb}
use lib.ListN.{length, get_or}
use Rattle.cd.specs.Diagrams.{Stored, is_joined}
use Rattle.cd.specs.Minimal.{is_ringed, Linked, RingNear, Minimal, Decides}
use Rattle.cd.specs.Paths.{Path, here, on}
use Rattle.cd.specs.declared.Node.{Node}
use Rattle.cd.specs.declared.Node.TheVariants.{Unringed}
use Rattle.parse.specs.Reading.{Reading, Accepted, Refused}
use Rattle.lexicon.specs.Reads.{Marks}

-- ---- a text has one mark

decided_once : {P : Type 0} (a b : Bool) → Decides P a → Decides P b → a ≡ b
decided_once true b d e = sym (e.when (d.only_when refl))
decided_once false true d e = d.when (e.only_when refl)
decided_once false false d e = refl

pub marked_once : (x : Reading) (a b : Bool) → Marks x a → Marks x b → a ≡ b
marked_once (Accepted ns es) a b d e = decided_once a b d e
marked_once (Refused r) a b d e = d ∙ sym e

-- ---- tests

-- f holds of every number below n
unfoldable pub every : (ℕ → Bool) → ℕ → Bool
every f zero = true
every f (suc n) = let r = every f n in f n && r

pub every_at : (f : ℕ → Bool) (n i : ℕ) → every f n ≡ true → i < n → f i ≡ true
unfolding every
every_at f zero i h l = absurd (not-suc-le-zero l)
every_at f (suc n) i h l =
    let both = (and-eq-true_iff (f n) (every f n)).0 h in
    elim (dec_lt i n) [
      | yes m ↦ every_at f n i both.1 m
      | no m ↦ let e : i ≡ n = omega arith in rw e both.0
    ]

abbrev pub implies : Bool → Bool → Bool
implies true b = b
implies false b = true

pub implied : (a b : Bool) → implies a b ≡ true → a ≡ true → b ≡ true
implied true b h e = h
implied false b h e = absurd (false≢true e)

-- node i is ringed
abbrev pub ringed : List Node → ℕ → Bool
ringed ns i = is_ringed (get_or ns i Unringed)

-- i is ringed, or at most k steps lead from it to a ringed node: to `next i`, and so on, each along a stored edge
unfoldable pub leads : List Node → List Stored → (ℕ → ℕ) → ℕ → ℕ → Bool
leads ns es next zero i = ringed ns i
leads ns es next (suc k) i = let r = leads ns es next k (next i) in ringed ns i || (ltb (next i) (length ns) && (is_joined es i (next i) && r))

-- i, if it is in the set, is not ringed
abbrev pub plain : List Node → (ℕ → Bool) → ℕ → Bool
plain ns set i = implies (set i) (not (ringed ns i))

-- a stored edge between i and j leaves j in the set, if i is in it
abbrev pub keeps : List Stored → (ℕ → Bool) → ℕ → ℕ → Bool
keeps es set i j = implies (is_joined es i j) (implies (set i) (set j))

-- no stored edge between n nodes leaves the set
abbrev pub closed : ℕ → List Stored → (ℕ → Bool) → Bool
closed n es set = every (λ i. every (keeps es set i) n) n

-- ---- minimal

module _ {ns : List Node} {es : List Stored} where
  near_by_step : {i j : ℕ} (b r : Bool) → i < length ns → ringed ns i ≡ b → (j < length ns → r ≡ true → RingNear ns es j)
      → (b || (ltb j (length ns) && (is_joined es i j && r))) ≡ true → RingNear ns es i
  near_by_step {i} {j} true r l e from h = record { at = i; path = here; ring = record { inside = l; ringed = e } }
  near_by_step {i} {j} false r l e from h =
      let a = (and-eq-true_iff (ltb j (length ns)) (is_joined es i j && r)).0 h in
      let b = (and-eq-true_iff (is_joined es i j) r).0 a.1 in
      let m = ltb-true j (length ns) a.0 in
      let near = from m b.1 in
      record { at = near.at; path = on (record { first = l; other = m; stored = b.0 }) near.path; ring = near.ring }

  leads_near : (next : ℕ → ℕ) (k i : ℕ) → i < length ns → leads ns es next k i ≡ true → RingNear ns es i
  unfolding leads
  leads_near next zero i l h = record { at = i; path = here; ring = record { inside = l; ringed = h } }
  leads_near next (suc k) i l h = near_by_step (ringed ns i) (leads ns es next k (next i)) l refl (leads_near next k (next i)) h

  pub minimal_by : (next : ℕ → ℕ) → every (leads ns es next (length ns)) (length ns) ≡ true → Decides (Minimal ns es) true
  minimal_by next h =
      record { only_when = λ _ i l. leads_near next (length ns) i l (every_at (leads ns es next (length ns)) (length ns) i h l); when = λ _. refl }

-- ---- not minimal

pub path_stays : {n : ℕ} {es : List Stored} {i j : ℕ} (set : ℕ → Bool) → closed n es set ≡ true → Path (Linked n es) i j → set i ≡ true → set j ≡ true
path_stays set h here s = s
path_stays {n} {es} set h (on {i} {j} e p) s =
    let c = every_at (keeps es set i) n j (every_at (λ i. every (keeps es set i) n) n i h e.first) e.other in
    path_stays set h p (implied (set i) (set j) (implied (is_joined es i j) (implies (set i) (set j)) c e.stored) s)

-- the set has the node k, no ringed node, and no stored edge to other nodes
pub not_minimal_by : {ns : List Node} {es : List Stored} (set : ℕ → Bool) (k : ℕ) → ltb k (length ns) ≡ true → set k ≡ true
    → every (plain ns set) (length ns) ≡ true → closed (length ns) es set ≡ true → Decides (Minimal ns es) false
not_minimal_by {ns} {es} set k l s u h =
    record {
      only_when = λ e. absurd (false≢true e);
      when = λ all.
          let near = all k (ltb-true k (length ns) l) in
          let p = every_at (plain ns set) (length ns) near.at u near.ring.inside in
          let none = implied (set near.at) (not (ringed ns near.at)) p (path_stays set h near.path s) in
          absurd (true≢false (sym none ∙ ap not near.ring.ringed));
    }
