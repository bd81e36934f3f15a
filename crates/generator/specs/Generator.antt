-- Document 01, "Matrix, mirrors, families": "Generator (`Cd::generator`): b holds the node values; for i from last to first, b(i) is divided by row i of column i,
-- then each b(r), r < i, loses b(i) × row r of column i. It carries its coordinates and its circumradius, root of the sum of squares."
use Rattle.std.specs.Prelude.{Bool, true, false, List, [], ◌∷◌, ℕ, zero, suc, ◌+◌, ltb, eqb, Float, get_or}
use Rattle.std.specs.Float.{nan, inf, fin}
use Rattle.float.specs.Numbers.{◌-ᶠ◌, ◌*ᶠ◌, ◌/ᶠ◌}
use Rattle.float.specs.Pick.{pick}
use Rattle.float.specs.Root.{root_of}
use Rattle.cd.specs.declared.Node.{Node}
use Rattle.cd.specs.declared.Node.TheVariants.{Unringed, Ringed, Snub}
use Rattle.cox.specs.Squares.{Square, nil, dot}

-- a node's value; an unringed one's is 0
unfoldable pub value : Node → Float
value Unringed = nil
value (Ringed v) = v
value (Snub v) = v

unfoldable pub values : List Node → ℕ → Float
unfolding value
values ns i = value (get_or ns i Unringed)

-- the coordinates once b(i) is divided and the ones before it have lost it
unfoldable pub solved : Square → ℕ → (ℕ → Float) → ℕ → Float
solved m i b r =
    let v = b i /ᶠ m i i in
    pick (ltb r i) (b r -ᶠ v *ᶠ m i r) (pick (eqb r i) v (b r))

-- "for i from last to first", of n
unfoldable pub solve : Square → ℕ → (ℕ → Float) → ℕ → Float
unfolding solved
solve m zero b = b
solve m (suc i) b = solve m i (solved m i b)

-- "root of the sum of squares"
unfoldable pub radius : (ℕ → Float) → ℕ → Float
unfolding dot root_of
radius b n = root_of (dot b b n)

-- ---- "16, an infinite value (the first such node)"

unfoldable pub is_infinite : Float → Bool
is_infinite nan = false
is_infinite (inf s) = true
is_infinite (fin s m e) = false

-- the first node of a list whose value is infinite, the list's first being node k; or the place after the last
unfoldable pub first_infinite : List Node → ℕ → ℕ
unfolding is_infinite value
first_infinite [] k = k
first_infinite (n ∷ ns) k = let r = first_infinite ns (k + 1) in pick (is_infinite (value n)) k r
