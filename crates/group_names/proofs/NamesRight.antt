-- The names' diagrams beside document 01's families, and their orders beside the ticket's and Coxeter's figures. antt computes each. Assumes nothing.
use mathlib.Core.Path.{◌≡◌, refl}
use Prim.Native.Char.{code}
use Prim.Native.Nat.{ℕ}
use Rattle.cox.specs.Families.{family}
use Rattle.group_names.specs.Names.{entry, order}
use Rattle.group_names.specs.declared.Name.TheVariants.{A, B, D, E6, E7, E8, F4, H3, H4, I2}

-- ---- document 01's families, for every size

pub family_A : (n : ℕ) → entry (A n) ≡ family (code "A")
unfolding entry family
family_A n = refl

pub family_B : (n : ℕ) → entry (B n) ≡ family (code "B")
unfolding entry family
family_B n = refl

pub family_D : (n : ℕ) → entry (D n) ≡ family (code "D")
unfolding entry family
family_D n = refl

pub family_E : (entry E6 ≡ family (code "E")) × (entry E7 ≡ family (code "E")) × (entry E8 ≡ family (code "E"))
unfolding entry family
family_E = (refl, refl, refl)

pub family_H : (entry H3 ≡ family (code "H")) × (entry H4 ≡ family (code "H"))
unfolding entry family
family_H = (refl, refl)

-- "F4 (edges 3, 4, 3)"
pub edges_F4 : (entry F4 0 1 ≡ 3) × (entry F4 1 2 ≡ 4) × (entry F4 2 3 ≡ 3) × (entry F4 0 2 ≡ 2) × (entry F4 0 3 ≡ 2) × (entry F4 1 3 ≡ 2)
unfolding entry
edges_F4 = (refl, refl, refl, refl, refl, refl)

-- "I2(p), two nodes with a whole p"
pub edges_I2 : (p : ℕ) → entry (I2 p) 0 1 ≡ p
unfolding entry
edges_I2 p = refl

-- ---- orders

pub orders_A : (order (A 1) ≡ 2) × (order (A 2) ≡ 6) × (order (A 3) ≡ 24) × (order (A 4) ≡ 120) × (order (A 8) ≡ 362880) × (order (A 9) ≡ 3628800)
unfolding order
orders_A = (refl, refl, refl, refl, refl, refl)

pub orders_B : (order (B 2) ≡ 8) × (order (B 3) ≡ 48) × (order (B 4) ≡ 384) × (order (B 9) ≡ 185794560)
unfolding order
orders_B = (refl, refl, refl, refl)

pub orders_D : (order (D 4) ≡ 192) × (order (D 5) ≡ 1920) × (order (D 9) ≡ 92897280)
unfolding order
orders_D = (refl, refl, refl)
