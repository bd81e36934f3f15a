-- Nothing is left of a list at its end, and only there. Assumes nothing.
use Prim.Native.Nat.{ℕ, ◌≤◌}
use mathlib.Core.List.{List}
use mathlib.Core.Logic.{⊎_elim}
use mathlib.Core.Path.{◌≡◌, ◌∙◌}
use native.Mathlib.Nat.{eq-or-lt_of_le}
use native.Mathlib.Omega.{arith}
use lib.Dec.{eqb}
use lib.ListN.{length, drop}
use lib.Seq.{drop-length}
use borrow.Author.Tests.{eq-eqb, ne_eqb}
use Rattle.scan.proofs.Rest.{drop_at}
use Rattle.length.specs.Literals.{is_empty}

pub empty_at_end : (s : List ℕ) (i : ℕ) → i ≤ length s → eqb i (length s) ≡ is_empty (drop i s)
unfolding is_empty
empty_at_end s i h =
    ⊎_elim
    (λ e. eq-eqb i (length s) e ∙ rw (e, drop-length))
    (λ p. ne_eqb i (length s) (λ e. omega arith) ∙ rw (drop_at s i p))
    (eq-or-lt_of_le h)
