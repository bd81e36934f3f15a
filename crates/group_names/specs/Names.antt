-- Document 02, ticket K4: "The names are A (n ≥ 1), order (n+1)!; B (n ≥ 2), 2^n × n!; D (n ≥ 4), 2^(n−1) × n!; E6, E7, E8, 51,840, 2,903,040, 696,729,600; F4
-- (edges 3, 4, 3), 1,152; H3, H4, 120 and 14,400; and I2(p), two nodes with a whole p ≥ 5, 2×p." No limit of nodes stands here.
use Rattle.std.specs.Prelude.{Bool, true, ℕ, ◌+◌, ◌-◌, ◌*◌, ◌^◌, leb}
use Prim.Native.Char.{code}
use Rattle.cox.specs.Families.{chain, made}
use Rattle.filing.specs.Factorials.{factorial}
use Rattle.group_names.specs.declared.Name.{Name}
use Rattle.group_names.specs.declared.Name.TheVariants.{A, B, D, E6, E7, E8, F4, H3, H4, I2}
use Rattle.group_names.specs.declared.NameParts.{NameParts}

-- which are names
unfoldable pub is_name : Name → Bool
is_name (A n) = leb 1 n
is_name (B n) = leb 2 n
is_name (D n) = leb 4 n
is_name E6 = true
is_name E7 = true
is_name E8 = true
is_name F4 = true
is_name H3 = true
is_name H4 = true
is_name (I2 p) = leb 5 p

-- how many nodes the diagram has
unfoldable pub rank : Name → ℕ
rank (A n) = n
rank (B n) = n
rank (D n) = n
rank E6 = 6
rank E7 = 7
rank E8 = 8
rank F4 = 4
rank H3 = 3
rank H4 = 4
rank (I2 p) = 2

-- the whole number between the nodes i and j, 2 where nothing joins them. Document 01: "A, B, H are chains of 3s, the first edge being 4 for B, 5 for H. D is A
-- with entry 0,1 made 2 and 0,2 made 3; E is A with 0,1 made 2 and 0,3 made 3"
unfoldable pub entry : Name → ℕ → ℕ → ℕ
unfolding chain made
entry (A n) = chain
entry (B n) = made 0 1 4 chain
entry (D n) = made 0 2 3 (made 0 1 2 chain)
entry E6 = made 0 3 3 (made 0 1 2 chain)
entry E7 = made 0 3 3 (made 0 1 2 chain)
entry E8 = made 0 3 3 (made 0 1 2 chain)
entry F4 = made 1 2 4 chain
entry H3 = made 0 1 5 chain
entry H4 = made 0 1 5 chain
entry (I2 p) = made 0 1 p chain

-- the group's order
unfoldable pub order : Name → ℕ
unfolding factorial
order (A n) = factorial (n + 1)
order (B n) = 2 ^ n * factorial n
order (D n) = 2 ^ (n - 1) * factorial n
order E6 = 51840
order E7 = 2903040
order E8 = 696729600
order F4 = 1152
order H3 = 120
order H4 = 14400
order (I2 p) = 2 * p

-- ---- how a name is written

-- its letter and the number behind it, `A3`; I2(p) has its p
unfoldable pub written : Name → NameParts
written (A n) = record { letter = code "A"; number = n }
written (B n) = record { letter = code "B"; number = n }
written (D n) = record { letter = code "D"; number = n }
written E6 = record { letter = code "E"; number = 6 }
written E7 = record { letter = code "E"; number = 7 }
written E8 = record { letter = code "E"; number = 8 }
written F4 = record { letter = code "F"; number = 4 }
written H3 = record { letter = code "H"; number = 3 }
written H4 = record { letter = code "H"; number = 4 }
written (I2 p) = record { letter = code "I"; number = p }
