-- Finite and infinite lengths, as the theorems of document 02's K6 speak of them (proofs/Wishes.antt).
use Rattle.std.specs.Prelude.{ℕ, ◌+◌, ◌-◌, Bool, true, ◌&&◌, List, [], ◌∷◌, ◌≡◌, Float, get_or, take, drop}
use Prim.Native.Char.{code}
use Rattle.std.specs.Float.Ieee.Scale.{finite}
use Rattle.cd.specs.declared.Node.{Node}
use Rattle.cd.specs.declared.Node.TheVariants.{Unringed, Ringed, Snub}
use Rattle.length.specs.Literals.{literal_of}
use Rattle.length.specs.declared.Length.TheVariants.{Infinite}
use Rattle.node.specs.Nodes.{closing}

-- an unringed node has no length
abbrev pub is_finite : Node → Bool
is_finite Unringed = true
is_finite (Ringed v) = finite v
is_finite (Snub v) = finite v

abbrev pub all_finite : List Node → Bool
all_finite [] = true
all_finite (n ∷ ns) = is_finite n && all_finite ns

-- "an infinite literal .. (23, its last byte)": the text has one from behind the `(` at `at` to `pos`, and the next `)` behind it
pub record InfiniteLiteral (s : List ℕ) (pos : ℕ) : Type 0 where
  pub at : ℕ
  pub value : Float
  pub opened : get_or s at 0 ≡ code "("
  pub literal : literal_of (take (pos - at) (drop (at + 1) s)) ≡ Infinite value
  pub closed : closing (drop (at + 1) s) (at + 1) ≡ pos + 1
