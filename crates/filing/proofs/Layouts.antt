-- A layout's parts have lengths that the number of nodes tells, so that a layout is cut at any node and any pair. Assumes nothing.
use mathlib.Core.List.{List, ◌∷◌, ◌++◌, append_assoc}
use mathlib.Core.Path.{◌≡◌, refl, ap, ap₂, ◌∙◌}
use Prim.Native.Nat.{ℕ, zero, suc, ◌+◌, ◌-◌, ◌*◌, ◌≤◌, ◌<◌}
use native.Mathlib.Nat.{mul-le-mul, mul-le-mul_left}
use native.Mathlib.Numerals.{sub-one}
use native.Mathlib.Omega.{arith}
use lib.ListN.{length, replicate, length-append}
use Rattle.filing.specs.Bytes.{blocks, filled}
use Rattle.filing.specs.Diagrams.{Node, Diagram, IsEdge}
use Rattle.filing.specs.Fractions.{Fraction, lowest}
use Rattle.filing.specs.Records.{nodes_length, pairs_length, record_length, node_length, node_bytes, pair_bytes, nodes_of, row_of, pairs_of, layout}
use Rattle.filing.proofs.Bytes.{length_blocks, blocks_same, blocks_split, length_filled}
use Rattle.filing.proofs.Gcd.{lowest_num_le, lowest_positive, lowest_less}

pub lowest_edge : {x : Fraction} → IsEdge x → IsEdge (lowest x)
lowest_edge {x} h = record {
  fits = omega (arith, lowest_num_le x);
  den_pos = lowest_positive x h.den_pos;
  above_one = lowest_less x h.above_one;
}

-- ---- lengths

pub length_node_bytes : (v : Node) → length (node_bytes v) ≡ node_length
unfolding node_bytes
length_node_bytes v = refl

pub length_pair_bytes : (x : Fraction) → length (pair_bytes x) ≡ 8
unfolding pair_bytes
length_pair_bytes x = refl

pub length_nodes_of : (d : Diagram) (p : ℕ → ℕ) (n : ℕ) → length (nodes_of d p n) ≡ nodes_length n
unfolding nodes_of
length_nodes_of d p n = length_blocks _ node_length n (λ i h. length_node_bytes (d.node (p i)))

pub length_row_of : (d : Diagram) (p : ℕ → ℕ) (j : ℕ) → length (row_of d p j) ≡ 8 * j
unfolding row_of
length_row_of d p j = length_blocks _ 8 j (λ i h. length_pair_bytes (d.edge (p i) (p j)))

pub one_row_more : (n : ℕ) → pairs_length n + 8 * n ≡ pairs_length (suc n)
one_row_more zero = refl
one_row_more (suc n) = simp sub-one (omega arith)

pub length_pairs_of : (d : Diagram) (p : ℕ → ℕ) (n : ℕ) → length (pairs_of d p n) ≡ pairs_length n
unfolding pairs_of
length_pairs_of d p zero = refl
length_pairs_of d p (suc n) = length-append (blocks (row_of d p) n) (row_of d p n) ∙ ap₂ ◌+◌ (length_pairs_of d p n) (length_row_of d p n) ∙ one_row_more n

pub pairs_length_mono : {m n : ℕ} → m ≤ n → pairs_length m ≤ pairs_length n
pairs_length_mono h = mul-le-mul (mul-le-mul_left 4 h) (omega arith)

module _ (N : ℕ) (d : Diagram) (few : d.size ≤ N) (p : ℕ → ℕ) where
  pub nodes_fit : length (nodes_of d p d.size) ≤ nodes_length N
  nodes_fit = omega (arith, length_nodes_of d p d.size)

  pub pairs_fit : length (pairs_of d p d.size) ≤ pairs_length N
  pairs_fit = rw (length_pairs_of d p d.size) (pairs_length_mono few)

  pub length_nodes_part : length (filled (nodes_length N) (nodes_of d p d.size)) ≡ nodes_length N
  length_nodes_part = length_filled (nodes_length N) (nodes_of d p d.size) nodes_fit

  pub length_layout : length (layout N d p) ≡ record_length N
  unfolding layout
  length_layout =
      let ns : List ℕ = filled (nodes_length N) (nodes_of d p d.size) in
      let ps : List ℕ = filled (pairs_length N) (pairs_of d p d.size) in
      omega (arith, length-append ns ps, length_nodes_part, length_filled (pairs_length N) (pairs_of d p d.size) pairs_fit)

-- ---- equal layouts

-- the first n places, those of d under p and those of e under q, have the same bytes
abbrev pub SameNodes : (d e : Diagram) (p q : ℕ → ℕ) → ℕ → Type 0
SameNodes d e p q n = (k : ℕ) → k < n → node_bytes (d.node (p k)) ≡ node_bytes (e.node (q k))

abbrev pub SamePairs : (d e : Diagram) (p q : ℕ → ℕ) → ℕ → Type 0
SamePairs d e p q n = (k m : ℕ) → k < m → m < n → pair_bytes (d.edge (p k) (p m)) ≡ pair_bytes (e.edge (q k) (q m))

module _ (d e : Diagram) (p q : ℕ → ℕ) where
  nodes_same : (n : ℕ) → SameNodes d e p q n → nodes_of d p n ≡ nodes_of e q n
  unfolding nodes_of
  nodes_same n h = blocks_same _ _ n h

  pairs_same : (n : ℕ) → SamePairs d e p q n → pairs_of d p n ≡ pairs_of e q n
  unfolding pairs_of
  pairs_same n h = blocks_same _ _ n (λ j k. blocks_same _ _ j (λ i l. h i j l k))

  pub layouts_equal : (N : ℕ) → d.size ≡ e.size → SameNodes d e p q d.size → SamePairs d e p q d.size → layout N d p ≡ layout N e q
  unfolding layout
  layouts_equal N s h k = rw (nodes_same d.size h, pairs_same d.size k, s)

pub layouts_same : (N : ℕ) (d : Diagram) (p q : ℕ → ℕ) → SameNodes d d p q d.size → SamePairs d d p q d.size → layout N d p ≡ layout N d q
layouts_same N d p q h k = layouts_equal d d p q N refl h k

-- a layout depends on the numbering's first places alone
pub layout_local : (N : ℕ) (d : Diagram) (p q : ℕ → ℕ) → ((i : ℕ) → i < d.size → p i ≡ q i) → layout N d p ≡ layout N d q
layout_local N d p q e =
    layouts_same N d p q (λ k h. ap (λ u. node_bytes (d.node u)) (e k h)) (λ k m h l. ap₂ (λ u v. pair_bytes (d.edge u v)) (e k (omega arith)) (e m l))

-- ---- a layout cut at a node and at a pair

-- l is a, then x, then a rest
pub record Cut (l a x : List ℕ) : Type 0 where
  pub rest : List ℕ
  pub whole : l ≡ a ++ (x ++ rest)

module _ (N : ℕ) (d : Diagram) (p : ℕ → ℕ) where
  abbrev pub before_pair : ℕ → ℕ → List ℕ
  before_pair i j = d.size ∷ (filled (nodes_length N) (nodes_of d p d.size) ++ (pairs_of d p j ++ blocks (λ k. pair_bytes (d.edge (p k) (p j))) i))

  pub node_cut : (i : ℕ) → i < d.size → Cut (layout N d p) (d.size ∷ nodes_of d p i) (node_bytes (d.node (p i)))
  unfolding layout
  node_cut i h =
      let (rest, e) = blocks_split (λ k. node_bytes (d.node (p k))) d.size i h in
      let zeros : List ℕ = replicate (nodes_length N - length (nodes_of d p d.size)) 0 in
      let pairs : List ℕ = filled (pairs_length N) (pairs_of d p d.size) in
      record { rest = rest ++ (zeros ++ pairs); whole = ap (λ z. d.size ∷ ((z ++ zeros) ++ pairs)) e ∙ simp append_assoc }

  pub pair_cut : (i j : ℕ) → i < j → j < d.size → Cut (layout N d p) (before_pair i j) (pair_bytes (d.edge (p i) (p j)))
  unfolding layout
  pair_cut i j h k =
      let (rest, e) = blocks_split (λ t. pair_bytes (d.edge (p t) (p j))) j i h in
      let (rows, f) = blocks_split (row_of d p) d.size j k in
      let g = f ∙ ap (λ z. pairs_of d p j ++ (z ++ rows)) e in
      let nodes : List ℕ = filled (nodes_length N) (nodes_of d p d.size) in
      let zeros : List ℕ = replicate (pairs_length N - length (pairs_of d p d.size)) 0 in
      record { rest = rest ++ (rows ++ zeros); whole = ap (λ z. d.size ∷ (nodes ++ (z ++ zeros))) g ∙ simp append_assoc }
