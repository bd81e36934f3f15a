-- Document 02, ticket K3: "the product of the groups' factorials", the groups being those of equal nodes among f 0, f 1, .., f (n - 1).
use Rattle.std.specs.Prelude.{Bool, true, false, ◌&&◌, ℕ, zero, suc, ◌*◌, eqb}
use Rattle.filing.specs.Counts.{count}
use Rattle.filing.specs.Diagrams.{Node}
use Rattle.filing.specs.Factorials.{factorial}

-- "their nine bytes": kind and value bits
unfoldable pub alike : Node → Node → Bool
alike x y = eqb x.kind y.kind && eqb x.bits y.bits

-- how many of the first m nodes are equal to x
abbrev pub members : (ℕ → Node) → Node → ℕ → ℕ
members f x m = count (λ i. alike (f i) x) m

abbrev pub factor : Bool → ℕ → ℕ
factor true k = k
factor false k = 1

-- the product over the groups of n nodes that the first m begin: a group is counted at its first node
unfoldable pub factorials : (ℕ → Node) → ℕ → ℕ → ℕ
unfolding factorial
factorials f n zero = 1
factorials f n (suc m) = factorials f n m * factor (eqb (members f (f m) m) 0) (factorial (members f (f m) n))

abbrev pub group_factorials : (ℕ → Node) → ℕ → ℕ
group_factorials f n = factorials f n n
