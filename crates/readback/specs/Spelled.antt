-- Document 01, "Filing record": "A record is read back to its diagram, in the record's own numbering". N is the limit of nodes.
use Rattle.std.specs.Prelude.{List, [], ◌∷◌, ℕ, eqb, get_or}
use Rattle.std.specs.Float.{binary64}
use Rattle.std.specs.Float.Ieee.{of_bits}
use Rattle.float.specs.Pick.{pick}
use Rattle.cd.specs.Diagrams.{Stored}
use Rattle.cd.specs.Edges.{is_two, edge_of}
use Rattle.cd.specs.declared.Node.{Node}
use Rattle.cd.specs.declared.Node.TheVariants.{Unringed, Ringed, Snub}
use Rattle.filing.specs.Bytes.{blocks}
use Rattle.filing.specs.Diagrams as filing
use Rattle.filing.specs.Readable.{node_at, fraction_at, pair_place}

-- "kind (1 unringed, 2 ringed, 3 snub), then its value bits"
unfoldable pub node : filing.Node → Node
unfolding of_bits
node v = pick (eqb v.kind 1) Unringed (pick (eqb v.kind 2) (Ringed (of_bits binary64 v.bits)) (Snub (of_bits binary64 v.bits)))

-- the nodes at the first n places
unfoldable pub nodes_to : List ℕ → ℕ → List Node
unfolding node node_at blocks
nodes_to l n = blocks (λ i. node (node_at l i) ∷ []) n

-- "2 and 1 if nothing joins them": an edge is stored for every other pair
unfoldable pub edge_at : ℕ → List ℕ → ℕ → ℕ → List Stored
unfolding is_two fraction_at pair_place
edge_at N l j i =
    let e = edge_of (fraction_at l (pair_place N i j)) in
    pick (is_two e) [] (record { first = i; other = j; edge = e } ∷ [])

-- the edges of place j with the first k places, and those of the first n places, by rising j and then rising i
unfoldable pub row_to : ℕ → List ℕ → ℕ → ℕ → List Stored
unfolding edge_at blocks
row_to N l j k = blocks (edge_at N l j) k

unfoldable pub edges_to : ℕ → List ℕ → ℕ → List Stored
unfolding row_to blocks
edges_to N l n = blocks (λ j. row_to N l j j) n

-- "Byte 0: node count n"
abbrev pub nodes_in : List ℕ → List Node
nodes_in l = nodes_to l (get_or l 0 0)

abbrev pub edges_in : ℕ → List ℕ → List Stored
edges_in N l = edges_to N l (get_or l 0 0)
