-- The edges that a record's pairs spell, stored one after another. Every edge before that of the pair i < j joins another pair: those of the places before
-- j have both ends below j, and those of place j have a first below i. So nothing joins i and j yet, and `stored` of crate cd puts the edge in its place.
-- A pair has at most one edge, so the edges of all places are few. Assumes nothing.
use Prim.Native.Nat.{ℕ, zero, suc, ◌+◌, ◌*◌, ◌≤◌, ◌<◌}
use mathlib.Core.Bool.{Bool, true, false, ◌||◌, or_assoc}
use mathlib.Core.List.{List, [], ◌∷◌, ◌++◌, append_assoc, append-nil}
use mathlib.Core.Logic.{⊎_elim}
use mathlib.Core.Path.{◌≡◌, refl, sym, ◌∙◌}
use native.Mathlib.Nat.{le_refl}
use native.Mathlib.Numerals.{add-one}
use native.Mathlib.Omega.{arith}
use borrow.Author.Tests.{ltb-false}
use lib.ListN.{length, set, replicate, length-append}
use Rattle.float.specs.Pick.{pick}
use Rattle.cd.specs.Diagrams.{Stored, joins, is_joined, none, between, limit, place_of}
use Rattle.cd.specs.Edges.{is_two, edge_of}
use Rattle.cd.specs.declared.Edge.{Edge}
use Rattle.cd.proofs.Arrays.{Same}
use Rattle.cd.proofs.Stored.{joins_other, rank_joined, nothing_stored, stored}
use Rattle.filing.specs.Bytes.{blocks}
use Rattle.filing.specs.Readable.{fraction_at, pair_place}
use Rattle.readback.specs.Spelled.{edge_at, row_to, edges_to}
use Rattle.readback.specs.Steps.{Shows}
use Rattle.readback.specs.declared.Edges.{Edges}

-- ---- blocks of edges: that none of them joins two nodes, and how many they are at most

joined_append : (a b : List Stored) (i j : ℕ) → is_joined (a ++ b) i j ≡ is_joined a i j || is_joined b i j
unfolding is_joined
joined_append [] b i j = refl
joined_append (s ∷ a) b i j = rw (joined_append a b i j) (sym (or_assoc (joins i j s) (is_joined a i j) (is_joined b i j)))

module _ (g : ℕ → List Stored) where
  pub blocks_apart : (i j n : ℕ) → ((k : ℕ) → k < n → is_joined (g k) i j ≡ false) → is_joined (blocks g n) i j ≡ false
  unfolding blocks is_joined
  blocks_apart i j zero h = refl
  blocks_apart i j (suc n) h = joined_append (blocks g n) (g n) i j ∙ rw (blocks_apart i j n (λ k l. h k (omega arith)), h n (le_refl (suc n)))

  blocks_few : (w n : ℕ) → ((k : ℕ) → k < n → length (g k) ≤ w) → length (blocks g n) ≤ w * n
  unfolding blocks
  blocks_few w zero h = omega arith
  blocks_few w (suc n) h = simp length-append (omega (arith, blocks_few w n (λ k l. h k (omega arith)), h n (le_refl (suc n))))

-- ---- the edges that a record spells

-- an edge, or none
one_apart : (t : Bool) (s : Stored) (i j : ℕ) → joins i j s ≡ false → is_joined (pick t [] (s ∷ [])) i j ≡ false
unfolding is_joined
one_apart true s i j h = refl
one_apart false s i j h = rw h

one_few : (t : Bool) (s : Stored) → length (pick t [] (s ∷ [])) ≤ 1
one_few true s = omega arith
one_few false s = omega arith

module _ (N : ℕ) (l : List ℕ) where
  -- the edge that the bytes of the pair a < b spell
  abbrev pub edge : ℕ → ℕ → Edge
  edge a b = edge_of (fraction_at l (pair_place N a b))

  abbrev joining : ℕ → ℕ → Stored
  joining a b = record { first = a; other = b; edge = edge a b }

  pub edge_apart : (b a i j : ℕ) → (Same a b i j → ⊥) → is_joined (edge_at N l b a) i j ≡ false
  unfolding edge_at
  edge_apart b a i j h = one_apart (is_two (edge a b)) (joining a b) i j (joins_other i j (joining a b) h)

  row_apart : (b n i j : ℕ) → ((a : ℕ) → a < n → Same a b i j → ⊥) → is_joined (row_to N l b n) i j ≡ false
  unfolding row_to
  row_apart b n i j h = blocks_apart (edge_at N l b) i j n (λ a k. edge_apart b a i j (h a k))

  edges_apart : (i j : ℕ) → is_joined (edges_to N l j) i j ≡ false
  unfolding edges_to
  edges_apart i j = blocks_apart (λ b. row_to N l b b) i j j (λ b k. row_apart b b i j (λ a m. ⊎_elim (λ p. omega arith) (λ p. omega arith)))

  row_few : (b n : ℕ) → length (row_to N l b n) ≤ n
  unfolding row_to edge_at
  row_few b n = omega (arith, blocks_few (edge_at N l b) 1 n (λ a k. one_few (is_two (edge a b)) (joining a b)))

  edges_few : (n : ℕ) → n ≤ limit → length (edges_to N l n) ≤ limit * n
  unfolding edges_to
  edges_few n h = blocks_few (λ b. row_to N l b b) limit n (λ b k. omega (arith, row_few b b))

  -- where the pairs before {i, j} are read
  module _ (i j : ℕ) (rising : i < j) where
    abbrev upto : List Stored
    upto = edges_to N l j ++ row_to N l j i

    pub upto_few : j < limit → length upto ≤ limit * limit
    upto_few h = simp length-append (omega (arith, edges_few j (omega arith), row_few j i))

    not_joined : (between 1 upto i j).rank ≡ 0
    not_joined =
        let row : is_joined (row_to N l j i) i j ≡ false = row_apart j i i j (λ a k. ⊎_elim (λ p. omega arith) (λ p. omega arith)) in
        let e : is_joined upto i j ≡ false = joined_append (edges_to N l j) (row_to N l j i) i j ∙ rw (edges_apart i j, row) in
        omega (arith, ltb-false 0 (between 1 upto i j).rank (rank_joined 1 upto i j (omega arith) ∙ e))

    next : edges_to N l j ++ row_to N l j (i + 1) ≡ upto ++ edge_at N l j i
    unfolding row_to blocks
    next = rw add-one (sym (append_assoc (edges_to N l j) (row_to N l j i) (edge_at N l j i)))

    module _ (low : j < limit) (e : Edges) (shows : Shows upto e) where
      -- the pair's fraction is a two, and nothing is stored
      pub two_read : is_two (edge i j) ≡ true → Shows (edges_to N l j ++ row_to N l j (i + 1)) e
      unfolding edge_at
      two_read t = rw (next, t, append-nil) shows

      -- any other is stored in its place, as the next edge
      pub edge_read : is_two (edge i j) ≡ false
          → Shows (edges_to N l j ++ row_to N l j (i + 1)) (record { pairs = set e.pairs (place_of i j) (record { rank = e.count + 1; edge = edge i j }); count = e.count + 1 })
      unfolding edge_at
      edge_read t =
          rw (next, t)
          (record {
            pairs = rw (shows.pairs, shows.count) (stored upto i j (edge i j) (omega arith) low not_joined);
            count = rw (length-append upto (joining i j ∷ [])) (omega (arith, shows.count));
          })

-- ---- a row, and its pairs

pub none_read : (N : ℕ) (l : List ℕ) → Shows (edges_to N l 0) (record { pairs = replicate 45 none; count = 0 })
unfolding edges_to blocks
none_read N l = record { pairs = sym nothing_stored; count = refl }

module _ (N : ℕ) (l : List ℕ) (j : ℕ) where
  pub row_starts : edges_to N l j ++ row_to N l j 0 ≡ edges_to N l j
  unfolding row_to blocks
  row_starts = append-nil (edges_to N l j)

  pub row_ends : edges_to N l j ++ row_to N l j j ≡ edges_to N l (j + 1)
  unfolding edges_to blocks
  row_ends = rw add-one
