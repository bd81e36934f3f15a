-- K4's texts to try: antt computes each reading, and the tests that find its names. Assumes nothing.
use mathlib.Core.List.{List, [], ◌∷◌}
use mathlib.Core.Path.{◌≡◌, refl}
use Prim.Native.Nat.{ℕ, ◌*◌}
use native.Mathlib.Omega.{arith}
use lib.Dec.{eqb}
use lib.Ieee.{of_bits}
use Rattle.float.specs.Decimal.{decimal_of}
use Rattle.float.specs.Numbers.{whole}
use Rattle.float.specs.Pick.{pick}
use Rattle.cd.specs.Arrays.{padded}
use Rattle.cd.specs.Diagrams.{is_joined}
use Rattle.cd.specs.Edges.{is_edge, is_two, reduced}
use Rattle.cd.specs.Letters.{letter_of}
use Rattle.cd.specs.References.{ends_of}
use Rattle.length.specs.Literals.{literal_of}
use Rattle.lexicon.proofs.Marks.{every}
use Rattle.node.specs.Nodes.{node_at}
use Rattle.parse.specs.Joining.{join_all}
use Rattle.parse.specs.Reading.{read, kept}
use Rattle.parse.specs.Text.{text_from}
use Rattle.scan.specs.Ascii.{ascii}
use Rattle.scan.specs.Bytes.{is_digit, is_space}
use Rattle.scan.specs.Edges.{edge_at}
use Rattle.scan.specs.Spaces.{skip}
use Rattle.tables.specs.Diagrams.{joint}
use Rattle.filing.specs.Numberings.{at}
use Rattle.group_names.specs.Names.{is_name, rank, entry}
use Rattle.group_names.specs.declared.Name.{Name}
use Rattle.group_names.specs.declared.Name.TheVariants.{A, B, D, F4, I2}
use Rattle.lexicon.specs.All.{All, nil, cons}
use Rattle.lexicon_names.specs.Texts.{RightEntry, texts}
use Rattle.lexicon_names.proofs.ByTests.{Found, is_told, groups_below, leads_to, is_unfit, names_by, nameless_by, nameless_by_search}

-- one component: its name, for each place the node, for each node the place, and the next on the way to node 0
abbrev one : Name → List ℕ → List ℕ → List ℕ → Found
one x nodes places steps = record { lowest = λ i. 0; next = at steps; name = λ c. x; node = λ c. at nodes; place = at places }

-- a chain in its own order
abbrev chained : Name → Found
chained x = one x (0 ∷ 1 ∷ 2 ∷ 3 ∷ []) (0 ∷ 1 ∷ 2 ∷ 3 ∷ []) (0 ∷ 0 ∷ 1 ∷ 2 ∷ [])

-- only the next on the way to node 0
abbrev along : List ℕ → Found
along steps = one (A 1) [] [] steps

-- node 1 beside the nodes 0 and 2
abbrev two : Found
two = record { lowest = at (0 ∷ 1 ∷ 0 ∷ []); next = at (0 ∷ 1 ∷ 0 ∷ []); name = λ c. pick (eqb c 0) (I2 7) (A 1); node = λ c. at (c ∷ 2 ∷ []); place = at (0 ∷ 0 ∷ 1 ∷ []) }

-- 5/2 is no whole number
no_half : (m : ℕ) → 5 * 1 ≡ m * 2 → ⊥
no_half m e = omega arith

pub texts_right : All RightEntry texts
unfolding texts read kept reduced text_from join_all node_at literal_of edge_at skip is_digit is_space ascii letter_of is_edge is_two ends_of decimal_of of_bits whole every is_told groups_below leads_to is_unfit is_name rank entry is_joined joint padded
texts_right =
    cons (names_by (chained (A 2)) refl refl refl)
    (cons (names_by (chained (B 2)) refl refl refl)
    (cons (names_by (chained (I2 5)) refl refl refl)
    (cons (names_by (chained (I2 5)) refl refl refl)
    (cons (nameless_by (chained (A 1)) refl 0 1 refl refl refl refl refl refl no_half refl)
    (cons (names_by (chained (I2 4294967295)) refl refl refl)
    (cons (names_by (chained F4) refl refl refl)
    (cons (names_by (one (A 3) (0 ∷ 2 ∷ 1 ∷ []) (0 ∷ 2 ∷ 1 ∷ []) (0 ∷ 2 ∷ 0 ∷ [])) refl refl refl)
    (cons (names_by (one (A 4) (0 ∷ 3 ∷ 2 ∷ 1 ∷ []) (0 ∷ 3 ∷ 2 ∷ 1 ∷ []) (0 ∷ 2 ∷ 3 ∷ 0 ∷ [])) refl refl refl)
    (cons (names_by (one (D 5) (0 ∷ 4 ∷ 3 ∷ 2 ∷ 1 ∷ []) (0 ∷ 4 ∷ 3 ∷ 2 ∷ 1 ∷ []) (0 ∷ 2 ∷ 3 ∷ 0 ∷ 3 ∷ [])) refl refl refl)
    (cons (nameless_by_search (along (0 ∷ 0 ∷ 1 ∷ [])) refl refl refl refl refl)
    (cons (nameless_by_search (along (0 ∷ 0 ∷ 1 ∷ 2 ∷ [])) refl refl refl refl refl)
    (cons (nameless_by_search (along (0 ∷ 0 ∷ 1 ∷ 2 ∷ 3 ∷ [])) refl refl refl refl refl)
    (cons (nameless_by_search (along (0 ∷ 0 ∷ 1 ∷ 2 ∷ 3 ∷ [])) refl refl refl refl refl)
    (cons (nameless_by_search (along (0 ∷ 0 ∷ 1 ∷ 2 ∷ 3 ∷ 4 ∷ 5 ∷ 6 ∷ 2 ∷ [])) refl refl refl refl refl)
    (cons (names_by (one (B 3) (2 ∷ 1 ∷ 0 ∷ []) (2 ∷ 1 ∷ 0 ∷ []) (0 ∷ 0 ∷ 1 ∷ [])) refl refl refl)
    (cons (names_by two refl refl refl)
    (cons (nameless_by (chained (A 2)) refl 2 3 refl refl refl refl refl refl no_half refl)
    (cons (names_by (chained (A 1)) refl refl refl) nil))))))))))))))))))
