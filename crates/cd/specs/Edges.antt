-- Document 01, "Nodes and edges": edges. Document 02, K2: edges in smallest numbers.
use Rattle.std.specs.Prelude.{ℕ, ◌*◌, Bool, not, ◌&&◌, ltb, eqb}
use Rattle.filing.specs.Fractions.{Fraction, lowest}
use Rattle.cd.specs.declared.Edge.{Edge}

-- "num > 1, den not 0, den < num"
unfoldable pub is_edge : ℕ → ℕ → Bool
is_edge num den = ltb 1 num && (not (eqb den 0) && ltb den num)

-- "It is two when num = 2×den, taken without wrapping."
unfoldable pub is_two : Edge → Bool
is_two e = eqb e.num (2 * e.den)

-- an edge and a fraction are the same two numbers
abbrev pub fraction : Edge → Fraction
fraction e = record { num = e.num; den = e.den }

abbrev pub edge_of : Fraction → Edge
edge_of x = record { num = x.num; den = x.den }

-- Document 02, K2: "num and den divided by their greatest common divisor"
unfoldable pub reduced : Edge → Edge
unfolding lowest
reduced e = edge_of (lowest (fraction e))
