-- The layout of tables: the number of nodes tells the lengths of its parts, and it is written node by node, pair by pair, row by row. Assumes nothing.
use mathlib.Core.List.{List, ◌∷◌, ◌++◌}
use mathlib.Core.Path.{◌≡◌, refl, ap₂, ◌∙◌}
use Prim.Native.Nat.{ℕ, zero, suc, ◌+◌, ◌-◌, ◌*◌, ◌≤◌, ◌<◌}
use native.Mathlib.Numerals.{add-one}
use native.Mathlib.Omega.{arith}
use lib.ListN.{length, drop, set, replicate, length-append}
use Rattle.filing.specs.Bytes.{bytes, blocks, filled, written}
use Rattle.filing.specs.Numberings.{at}
use Rattle.filing.specs.Records.{node_length, nodes_length, pairs_length, record_length}
use Rattle.filing.proofs.Bytes.{length_bytes, length_blocks, length_filled, length_written, written_block}
use Rattle.filing.proofs.Layouts.{one_row_more, pairs_length_mono}
use Rattle.tables.specs.Tables.{Entries, table_node, table_nodes, table_row, table_pairs, table_layout}
use Rattle.records.proofs.Parts.{byte_then, block_then, parts_written}

-- ---- nodes

module _ (t : Entries) (p : ℕ → ℕ) where
  length_node_lem : (i : ℕ) → length (table_node t (p i)) ≡ node_length
  unfolding table_node
  length_node_lem i = refl

  pub length_table_nodes : (n : ℕ) → length (table_nodes t p n) ≡ nodes_length n
  unfolding table_nodes
  length_table_nodes n = length_blocks _ node_length n (λ i h. length_node_lem i)

  pub node_then : (i : ℕ) (l : List ℕ) → 1 + node_length * i < length l
      → written (1 + node_length * i + 1) (bytes 8 (at t.bits (p i))) (set (written 1 (table_nodes t p i) l) (1 + node_length * i) (at t.kinds (p i)))
      ≡ written 1 (table_nodes t p (i + 1)) l
  unfolding table_nodes table_node
  node_then i l h =
      let e = length_written 1 (table_nodes t p i) l (omega (arith, length_table_nodes i)) in
      byte_then (1 + node_length * i) (at t.kinds (p i)) (bytes 8 (at t.bits (p i))) (written 1 (table_nodes t p i) l) (rw e h)
      ∙ block_then 1 node_length (λ v. table_node t (p v)) i l (λ v m. length_node_lem v) (omega arith)

-- ---- pairs

module _ (N : ℕ) (t : Entries) (p : ℕ → ℕ) where
  -- the pair of places i and j
  abbrev pub pair_of : ℕ → ℕ → List ℕ
  pair_of j i = bytes 8 (at t.pairs (N * p i + p j))

  length_pair : (j i : ℕ) → length (pair_of j i) ≡ 8
  length_pair j i = length_bytes 8 (at t.pairs (N * p i + p j))

  pub pair_then : (j k i : ℕ) (l : List ℕ) → k + 8 * i ≤ length l
      → written (k + 8 * i) (pair_of j i) (written k (blocks (pair_of j) i) l) ≡ written k (blocks (pair_of j) (i + 1)) l
  pair_then j k i l h = block_then k 8 (pair_of j) i l (λ v m. length_pair j v) h

  pub length_table_row : (j : ℕ) → length (table_row N t p j) ≡ 8 * j
  unfolding table_row
  length_table_row j = length_blocks (pair_of j) 8 j (λ i h. length_pair j i)

  pub length_table_pairs : (n : ℕ) → length (table_pairs N t p n) ≡ pairs_length n
  unfolding table_pairs
  length_table_pairs zero = refl
  length_table_pairs (suc n) =
      length-append (blocks (table_row N t p) n) (table_row N t p n) ∙ ap₂ ◌+◌ (length_table_pairs n) (length_table_row n) ∙ one_row_more n

  pub pairs_fit : (n : ℕ) → n ≤ N → length (table_pairs N t p n) ≤ pairs_length N
  pairs_fit n h = rw (length_table_pairs n) (pairs_length_mono h)

  pub pairs_more : (j : ℕ) → length (table_pairs N t p (j + 1)) ≡ length (table_pairs N t p j) + 8 * j
  pairs_more j = rw (add-one j, length_table_pairs (suc j), length_table_pairs j, one_row_more j)

  -- row j fits behind those before it
  pub row_fits : (j : ℕ) → j < N → length (table_pairs N t p j) + 8 * j ≤ pairs_length N
  row_fits j h = rw (pairs_more j) at (pairs_fit (j + 1) (rw (add-one j) h))

  pub row_then : (k j : ℕ) (l : List ℕ) → k + length (table_pairs N t p j) ≤ length l
      → written (k + length (table_pairs N t p j)) (table_row N t p j) (written k (table_pairs N t p j) l) ≡ written k (table_pairs N t p (j + 1)) l
  unfolding table_pairs
  row_then k j l h = written_block k (table_row N t p) j l h

-- ---- the whole

module _ (N : ℕ) (t : Entries) (p : ℕ → ℕ) (h : t.count ≤ N) where
  abbrev n : ℕ
  n = t.count

  nodes_fit : length (table_nodes t p n) ≤ nodes_length N
  nodes_fit = omega (arith, length_table_nodes t p n)

  pub length_table_layout : length (table_layout N t p) ≡ record_length N
  unfolding table_layout
  length_table_layout =
      let nodes = length_filled (nodes_length N) (table_nodes t p n) nodes_fit in
      let rows = length_filled (pairs_length N) (table_pairs N t p n) (pairs_fit N t p n h) in
      let both = length-append (filled (nodes_length N) (table_nodes t p n)) (filled (pairs_length N) (table_pairs N t p n)) in
      omega arith

  pub layout_written : (l : List ℕ)
      → written (1 + nodes_length N) (table_pairs N t p n) (written 1 (table_nodes t p n) (written 0 (n ∷ replicate (record_length N - 1) 0) l))
      ≡ table_layout N t p ++ drop (record_length N) l
  unfolding table_layout
  layout_written l =
      let e : record_length N - 1 ≡ nodes_length N + pairs_length N = omega arith in
      rw e (parts_written (nodes_length N) (pairs_length N) n (table_nodes t p n) (table_pairs N t p n) l nodes_fit (pairs_fit N t p n h))
