-- Document 01's sentence on the families, place by place: what stands at i, j with i ≤ j, for every size; the mirrored entries are Symmetric.antt's. An entry
-- that is made another leaves every other one as it was. Assumes nothing.
use mathlib.Core.Path.{◌≡◌, refl, ap, ◌∙◌}
use Prim.Native.Char.{code}
use Prim.Native.Nat.{ℕ, ◌+◌, ◌<◌}
use native.Mathlib.Omega.{arith}
use borrow.Author.Tests.{eq-eqb, ne_eqb}
use Rattle.cox.specs.Families.{chain, made, family}
use Rattle.cox.proofs.Mirrored.{entry_here, entry_other}

-- ---- "chains of 3s"

pub chain_diagonal : (i : ℕ) → chain i i ≡ 1
unfolding chain
chain_diagonal i = rw (eq-eqb i i refl)

pub chain_next : (i : ℕ) → chain i (i + 1) ≡ 3
unfolding chain
chain_next i = rw (ne_eqb i (i + 1) (λ e. omega arith), eq-eqb (i + 1) (i + 1) refl)

pub chain_far : (i j : ℕ) → i + 1 < j → chain i j ≡ 2
unfolding chain
chain_far i j h = rw (ne_eqb i j (λ e. omega arith), ne_eqb (i + 1) j (λ e. omega arith), ne_eqb (j + 1) i (λ e. omega arith))

-- ---- "entry a, b made v"

module _ (a b v : ℕ) (f : ℕ → ℕ → ℕ) where
  made_here : made a b v f a b ≡ v
  unfolding made
  made_here = rw (← entry_here a b a b refl refl)

  made_elsewhere : (i j : ℕ) → (i ≡ a → j ≡ b → ⊥) → (i ≡ b → j ≡ a → ⊥) → made a b v f i j ≡ f i j
  unfolding made
  made_elsewhere i j n m = rw (← entry_other a b i j n m)

-- a chain whose first edge is made v
module _ (v : ℕ) where
  led_diagonal : (i : ℕ) → made 0 1 v chain i i ≡ 1
  led_diagonal i = made_elsewhere 0 1 v chain i i (λ p q. omega arith) (λ p q. omega arith) ∙ chain_diagonal i

  led_next : (i : ℕ) → made 0 1 v chain (i + 1) (i + 2) ≡ 3
  led_next i = made_elsewhere 0 1 v chain (i + 1) (i + 2) (λ p q. omega arith) (λ p q. omega arith) ∙ ap (chain (i + 1)) (omega arith) ∙ chain_next (i + 1)

  led_far : (i j : ℕ) → i + 1 < j → made 0 1 v chain i j ≡ 2
  led_far i j h = made_elsewhere 0 1 v chain i j (λ p q. omega arith) (λ p q. omega arith) ∙ chain_far i j h

-- a chain whose first edge is made 2, its node 0 joined to node b instead
module _ (b : ℕ) (later : 1 < b) where
  abbrev branched : ℕ → ℕ → ℕ
  branched = made 0 b 3 (made 0 1 2 chain)

  branched_diagonal : (i : ℕ) → branched i i ≡ 1
  branched_diagonal i = made_elsewhere 0 b 3 _ i i (λ p q. omega arith) (λ p q. omega arith) ∙ led_diagonal 2 i

  branched_first : branched 0 1 ≡ 2
  branched_first = made_elsewhere 0 b 3 _ 0 1 (λ p q. omega arith) (λ p q. omega arith) ∙ made_here 0 1 2 chain

  branched_here : branched 0 b ≡ 3
  branched_here = made_here 0 b 3 _

  branched_next : (i : ℕ) → branched (i + 1) (i + 2) ≡ 3
  branched_next i = made_elsewhere 0 b 3 _ (i + 1) (i + 2) (λ p q. omega arith) (λ p q. omega arith) ∙ led_next 2 i

  branched_far : (i j : ℕ) → i + 1 < j → (i ≡ 0 → j ≡ b → ⊥) → branched i j ≡ 2
  branched_far i j h n = made_elsewhere 0 b 3 _ i j n (λ p q. omega arith) ∙ led_far 2 i j h

-- ---- A

pub family_A_diagonal : (i : ℕ) → family (code "A") i i ≡ 1
unfolding family
family_A_diagonal = chain_diagonal

pub family_A_next : (i : ℕ) → family (code "A") i (i + 1) ≡ 3
unfolding family
family_A_next = chain_next

pub family_A_far : (i j : ℕ) → i + 1 < j → family (code "A") i j ≡ 2
unfolding family
family_A_far = chain_far

-- ---- B, "the first edge being 4"

pub family_B : family (code "B") ≡ made 0 1 4 (family (code "A"))
unfolding family
family_B = refl

pub family_B_diagonal : (i : ℕ) → family (code "B") i i ≡ 1
unfolding family
family_B_diagonal = led_diagonal 4

pub family_B_first : family (code "B") 0 1 ≡ 4
unfolding family
family_B_first = made_here 0 1 4 chain

pub family_B_next : (i : ℕ) → family (code "B") (i + 1) (i + 2) ≡ 3
unfolding family
family_B_next = led_next 4

pub family_B_far : (i j : ℕ) → i + 1 < j → family (code "B") i j ≡ 2
unfolding family
family_B_far = led_far 4

-- ---- H, "5 for H"

pub family_H : family (code "H") ≡ made 0 1 5 (family (code "A"))
unfolding family
family_H = refl

pub family_H_diagonal : (i : ℕ) → family (code "H") i i ≡ 1
unfolding family
family_H_diagonal = led_diagonal 5

pub family_H_first : family (code "H") 0 1 ≡ 5
unfolding family
family_H_first = made_here 0 1 5 chain

pub family_H_next : (i : ℕ) → family (code "H") (i + 1) (i + 2) ≡ 3
unfolding family
family_H_next = led_next 5

pub family_H_far : (i j : ℕ) → i + 1 < j → family (code "H") i j ≡ 2
unfolding family
family_H_far = led_far 5

-- ---- D, "A with entry 0,1 made 2 and 0,2 made 3"

pub family_D : family (code "D") ≡ made 0 2 3 (made 0 1 2 (family (code "A")))
unfolding family
family_D = refl

pub family_D_diagonal : (i : ℕ) → family (code "D") i i ≡ 1
unfolding family
family_D_diagonal = branched_diagonal 2 (omega arith)

pub family_D_first : family (code "D") 0 1 ≡ 2
unfolding family
family_D_first = branched_first 2 (omega arith)

pub family_D_branch : family (code "D") 0 2 ≡ 3
unfolding family
family_D_branch = branched_here 2 (omega arith)

pub family_D_next : (i : ℕ) → family (code "D") (i + 1) (i + 2) ≡ 3
unfolding family
family_D_next = branched_next 2 (omega arith)

pub family_D_far : (i j : ℕ) → i + 1 < j → (i ≡ 0 → j ≡ 2 → ⊥) → family (code "D") i j ≡ 2
unfolding family
family_D_far = branched_far 2 (omega arith)

-- ---- E, "A with 0,1 made 2 and 0,3 made 3"

pub family_E : family (code "E") ≡ made 0 3 3 (made 0 1 2 (family (code "A")))
unfolding family
family_E = refl

pub family_E_diagonal : (i : ℕ) → family (code "E") i i ≡ 1
unfolding family
family_E_diagonal = branched_diagonal 3 (omega arith)

pub family_E_first : family (code "E") 0 1 ≡ 2
unfolding family
family_E_first = branched_first 3 (omega arith)

pub family_E_branch : family (code "E") 0 3 ≡ 3
unfolding family
family_E_branch = branched_here 3 (omega arith)

pub family_E_next : (i : ℕ) → family (code "E") (i + 1) (i + 2) ≡ 3
unfolding family
family_E_next = branched_next 3 (omega arith)

pub family_E_far : (i j : ℕ) → i + 1 < j → (i ≡ 0 → j ≡ 3 → ⊥) → family (code "E") i j ≡ 2
unfolding family
family_E_far = branched_far 3 (omega arith)
