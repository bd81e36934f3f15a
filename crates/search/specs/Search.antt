-- Document 02, tickets K3 and K9: what the search is asked and what it finds. N is the limit of nodes. No public promise leans on this file.
use Rattle.std.specs.Prelude.{Bool, true, false, List, ◌⊎◌, ◌≡◌, ◌≢◌, ℕ, ◌-◌, ◌*◌, ◌≤◌, ◌<◌, length, drop}
use Rattle.std.specs.declared.cmp.Ordering.{Ordering}
use Rattle.std.specs.declared.cmp.Ordering.TheVariants.{Less, Equal, Greater}
use Rattle.filing.specs.Bytes.{◌≼◌}
use Rattle.filing.specs.Groups.{group_factorials}
use Rattle.filing.specs.Numberings.{Numbering, at, plain}
use Rattle.tables.specs.Tables.{Entries, table_layout, node_at}
use Rattle.blocks.specs.Blocks.{base, block, Keyed}
use Rattle.groups.specs.Groups.{Grouped, Within, ways}
use Rattle.filing.specs.Sequences.{Agree, Before, AtMost}
use Rattle.blocks.specs.Ranks.{table}

-- r numbers the nodes, no numbering lays out less, and past the nodes it is the plain one
pub record Smallest (N : ℕ) (t : Entries) (r : List ℕ) : Type 0 where
  pub numbering : Numbering t.count (at r)
  pub least : (q : ℕ → ℕ) → Numbering t.count q → table_layout N t (at r) ≼ table_layout N t q
  pub spare : drop t.count r ≡ drop t.count (plain N)

-- ticket K9: "Of all numberings that give the record, return the first, comparing the list of old nodes in new order as numbers from the left."
pub record Foremost (N : ℕ) (t : Entries) (r : List ℕ) : Type 0 where
  pub room : length r ≡ N
  pub first : (q : ℕ → ℕ) → Numbering t.count q → table_layout N t q ≡ table_layout N t (at r)
      → AtMost t.count (at r) q

-- "It is proved to lie between 1 and the product of the groups' factorials"
pub record Counted (t : Entries) (count : ℕ) : Type 0 where
  pub some : 1 ≤ count
  pub most : count ≤ group_factorials (node_at t) t.count

-- ---- from place j on

-- p numbers n nodes group by group, and keys has the blocks up to place j of r's ranks
pub record Begun (N n j : ℕ) (r ends p keys : List ℕ) : Type 0 where
  pub few : n ≤ N
  pub place : j ≤ n
  pub digits : (u v : ℕ) → table N r u v < base
  pub room : length p ≡ N
  pub valid : Numbering n (at p)
  pub groups : Grouped n ends (at p)
  pub wide : length keys ≡ N * N
  pub keyed : Keyed N (table N r) n j (at p) keys

-- b is the best numbering so far, with its blocks in tops
pub record Best (N n : ℕ) (r ends p b tops : List ℕ) : Type 0 where
  pub room : length b ≡ N
  pub valid : Numbering n (at b)
  pub group : (i : ℕ) → i < n → at ends (at b i) ≡ at ends (at p i)
  pub wide : length tops ≡ N
  pub topped : (i : ℕ) → i < n → at tops i ≡ block (table N r) (at b) i

-- s tells how f stands to g on the first n places: before it, or the same
pub record Side (n : ℕ) (f g : ℕ → ℕ) (s : Ordering) : Type 0 where
  pub low : s ≢ Greater
  pub before : s ≡ Less → Before n f g
  pub same : s ≡ Equal → Agree n f g

-- s tells how the first j blocks of p stand to the best's
pub record Ready (N n j : ℕ) (s : Ordering) (r ends p keys b tops : List ℕ) : Type 0 where
  pub begun : Begun N n j r ends p keys
  pub best : Best N n r ends p b tops
  pub side : Side j (block (table N r) (at p)) (block (table N r) (at b)) s

-- p comes no later than q: by blocks, and where these agree by the nodes themselves
abbrev pub NoLater : (ℕ → ℕ → ℕ) → ℕ → (ℕ → ℕ) → (ℕ → ℕ) → Type 0
NoLater e n p q = Before n (block e p) (block e q) ⊎ (Agree n (block e p) (block e q) × AtMost n p q)

-- from b to the best of it and of all that go on from the first j places of p; count numberings were carried to the end
pub record Improves (e : ℕ → ℕ → ℕ) (ends : List ℕ) (n j : ℕ) (p b best : ℕ → ℕ) (count : ℕ) : Type 0 where
  pub no_worse : NoLater e n best b
  pub covers : (q : ℕ → ℕ) → Within n ends j p q → NoLater e n best q
  pub prefix : Agree j (block e best) (block e p)
  pub most : count ≤ ways ends p j (n - j)
  pub some : Agree n (block e b) (block e p) → 1 ≤ count

pub record Searched (N n j : ℕ) (r ends p b : List ℕ) (count : ℕ) (p' keys' b' tops' : List ℕ) : Type 0 where
  pub back : p' ≡ p
  pub begun : Begun N n j r ends p keys'
  pub best : Best N n r ends p b' tops'
  pub spare : drop n b' ≡ drop n b
  pub improves : Improves (table N r) ends n j (at p) (at b) (at b') count

-- ---- whether any numbering comes before given blocks

-- the first j blocks of p are the given ones
pub record Asked (N n j : ℕ) (r ends p keys tops : List ℕ) : Type 0 where
  pub begun : Begun N n j r ends p keys
  pub wide : length tops ≡ N
  pub prefix : Agree j (block (table N r) (at p)) (at tops)

pub record NoneLess (N n j : ℕ) (r ends p tops p' keys' : List ℕ) : Type 0 where
  pub back : p' ≡ p
  pub begun : Begun N n j r ends p keys'
  pub least : (q : ℕ → ℕ) → Within n ends j (at p) q → AtMost n (at tops) (block (table N r) q)

pub record SomeLess (N n j : ℕ) (r ends p tops : List ℕ) : Type 0 where
  pub numbering : ℕ → ℕ
  pub within : Within n ends j (at p) numbering
  pub less : Before n (block (table N r) numbering) (at tops)

pub record Tested (N n j : ℕ) (r ends p tops : List ℕ) (answer : Bool) (p' keys' : List ℕ) : Type 0 where
  pub if_true : answer ≡ true → NoneLess N n j r ends p tops p' keys'
  pub if_false : answer ≡ false → SomeLess N n j r ends p tops
