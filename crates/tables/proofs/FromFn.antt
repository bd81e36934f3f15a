-- What `array::from_fn` gives, where each call gives h of the index and leaves the closure as it was. Assumes nothing.
use Prim.Native.Nat.{ℕ, zero, suc, ◌+◌, ◌≤◌, ◌<◌}
use mathlib.Core.List.{List}
use mathlib.Core.Path.{◌≡◌, ◌∙◌, subst}
use native.Mathlib.Decide.{ℕ_discrete}
use native.Mathlib.Omega.{arith}
use lib.ListN.{get_or}
use denote.Param.Members.{Mut, Called}
use Rattle.std.specs.Array.{IsFromFnResultFrom}

pub from_fn_gives : {F B : Type 0} (g : Mut F (ℕ × Unit {0}) B) (f : F) (h : ℕ → B) (m : ℕ)
    → ((i : ℕ) (y : B) (q : F) → i < m → Called g f (i, tt) y q → (q ≡ f) × (y ≡ h i))
    → (ys : List B) (i n : ℕ) → i + n ≡ m → IsFromFnResultFrom g f ys i n → (k : ℕ) (d : B) → i ≤ k → k < m → get_or ys k d ≡ h k
from_fn_gives g f h m each ys i zero e r k d lo hi = absurd (omega arith)
from_fn_gives g f h m each ys i (suc n) e (q, y, is, call, rest) k d lo hi =
    let (same, gives) = each i y q (omega arith) call in
    elim (ℕ_discrete k i) [
      | yes here ↦ rw here (is.1 d ∙ gives)
      | no there ↦ from_fn_gives g f h m each ys (i + 1) n (omega arith) (subst (λ z. IsFromFnResultFrom g z ys (i + 1) n) same rest) k d (omega arith) hi
    ]
