-- Document 01, "Matrix, mirrors, families": the matrices of the families.
use Rattle.std.specs.Prelude.{Bool, ◌&&◌, ◌||◌, ℕ, ◌+◌, eqb, leb}
use Rattle.float.specs.Numbers.{whole}
use Rattle.float.specs.Pick.{pick}
use Rattle.scan.specs.Bytes.{is}
use Rattle.cox.specs.Squares.{Square}

-- the entry a, b and "the mirrored" one
unfoldable pub is_entry : ℕ → ℕ → ℕ → ℕ → Bool
is_entry a b i j = (eqb i a && eqb j b) || (eqb i b && eqb j a)

-- "chains of 3s"
unfoldable pub chain : ℕ → ℕ → ℕ
chain i j = pick (eqb i j) 1 (pick (eqb (i + 1) j || eqb (j + 1) i) 3 2)

-- the entry a, b and the mirrored one made v
unfoldable pub made : ℕ → ℕ → ℕ → (ℕ → ℕ → ℕ) → ℕ → ℕ → ℕ
unfolding is_entry
made a b v f i j = pick (is_entry a b i j) v (f i j)

-- "A, B, H are chains of 3s, the first edge being 4 for B, 5 for H. D is A with entry 0,1 made 2 and 0,2 made 3; E is A with 0,1 made 2 and 0,3 made 3"
unfoldable pub family : ℕ → ℕ → ℕ → ℕ
unfolding made chain
family c =
    pick (is "B" c) (made 0 1 4 chain)
    (pick (is "H" c) (made 0 1 5 chain)
    (pick (is "D" c) (made 0 2 3 (made 0 1 2 chain))
    (pick (is "E" c) (made 0 3 3 (made 0 1 2 chain)) chain)))

unfoldable pub family_matrix : ℕ → Square
unfolding family whole
family_matrix c i j = whole (family c i j)

-- "Least sizes A 1, B 2, H 2, D 3, E 4; greatest 9": the greatest is the limit of nodes
unfoldable pub is_family : ℕ → ℕ → ℕ → Bool
is_family N c n =
    leb n N && ((is "A" c && leb 1 n) || ((is "B" c && leb 2 n) || ((is "H" c && leb 2 n) || ((is "D" c && leb 3 n) || (is "E" c && leb 4 n)))))
