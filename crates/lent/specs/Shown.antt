-- What each call tells and shows.
use Rattle.std.specs.Prelude.{List, [], ◌∷◌, ◌++◌, ℕ, ◌+◌, ◌*◌, Float, take, Result}
use Rattle.float.specs.Pick.{pick}
use Rattle.cd.specs.Arrays.{padded}
use Rattle.cd.specs.Diagrams.{limit, pair_limit}
use Rattle.cd.specs.declared.Cd.{Cd}
use Rattle.cd.specs.declared.CdError.{CdError}
use Rattle.cd.specs.declared.Pair.{Pair}
use Rattle.cd.specs.declared.Place.{Place}
use Rattle.generator.specs.declared.Generator.{Generator}
use Rattle.geometry.specs.declared.Square.{Square}
use Rattle.group_names.specs.Names.{written}
use Rattle.group_names.specs.declared.Group.{Group}
use Rattle.group_names.specs.declared.Groups.{Groups}
use Rattle.lexicon.specs.declared.Reading.{Reading}
use Rattle.reflections.specs.declared.Matrix.{Matrix}
use Rattle.reflections.specs.declared.Reflections.{Reflections}
use Rattle.tables.specs.Diagrams.{filed}
use Rattle.lent.specs.Outcomes.{Outcome, outcome}

-- how many elements a diagram, the names of its groups, a matrix and reflections show
abbrev pub diagram_length : ℕ
diagram_length = 2 * limit + 3 * pair_limit

abbrev pub names_length : ℕ
names_length = 4 * limit

abbrev pub square_length : ℕ
square_length = limit * limit

abbrev pub reflections_length : ℕ
reflections_length = square_length * limit

-- what f gives of each element, end to end
unfoldable pub flat : {A B : Type 0} → (A → List B) → List A → List B
flat f [] = []
flat f (x ∷ xs) = f x ++ flat f xs

-- ---- diagrams

-- a node: its kind, then its value bits, as in a record
unfoldable pub node_numbers : Place → List ℕ
unfolding filed
node_numbers p = (filed p.node).kind ∷ (filed p.node).bits ∷ []

-- what joins two nodes: the edge's rank in the order stored, num and den, or zeros
unfoldable pub pair_numbers : Pair → List ℕ
pair_numbers p = p.rank ∷ p.edge.num ∷ p.edge.den ∷ []

-- the nodes in their places, then the pairs in theirs
unfoldable pub numbers_of : Cd → List ℕ
unfolding flat node_numbers pair_numbers
numbers_of cd = flat node_numbers cd.nodes ++ flat pair_numbers cd.pairs

-- of a text: nodes, stored edges, minimal 1 or 0
abbrev pub of_reading : Result Reading CdError → Outcome ℕ
of_reading = outcome (λ r. r.cd.count ∷ r.cd.edges ∷ pick r.minimal 1 0 ∷ []) (λ r. numbers_of r.cd)

-- of a record: nodes, edges
abbrev pub of_record : Result Cd CdError → Outcome ℕ
of_record = outcome (λ cd. cd.count ∷ cd.edges ∷ []) numbers_of

-- ---- the names of groups: the components are told

-- a component: its lowest node, its name's letter and number, its group's order
unfoldable pub group_numbers : Group → List ℕ
unfolding written
group_numbers g = g.node ∷ (written g.name).letter ∷ (written g.name).number ∷ g.order ∷ []

-- the components, then zeros
unfoldable pub names_of : Groups → List ℕ
unfolding flat group_numbers padded
names_of g = padded 0 names_length (flat group_numbers (take g.count g.at))

abbrev pub of_groups : Result Groups CdError → Outcome ℕ
of_groups = outcome (λ g. g.count ∷ []) names_of

-- ---- matrices, mirrors, generators, reflections: the nodes are told

abbrev pub of_square : Result Square CdError → Outcome Float
of_square = outcome (λ s. s.count ∷ []) (λ s. s.at)

-- the coordinates, and then the circumradius
abbrev pub of_generated : Result Generator CdError → Outcome Float
of_generated = outcome (λ g. g.count ∷ []) (λ g. g.at ++ (g.radius ∷ []))

abbrev pub entries : List Matrix → List Float
entries = flat (λ (m : Matrix). m.at)

abbrev pub of_reflected : Result Reflections CdError → Outcome Float
of_reflected = outcome (λ r. r.count ∷ []) (λ r. entries r.of)
