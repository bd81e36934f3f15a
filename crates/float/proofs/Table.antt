-- A table whose entries follow a rule, read at any of its places. Assumes nothing.
use mathlib.Core.Path.{◌≡◌, ap, ◌∙◌, sym}
use mathlib.Core.List.{List, [], ◌∷◌}
use Prim.Native.Nat.{ℕ, zero, suc, ◌+◌, ◌<◌}
use native.Mathlib.Nat.{add-zero, zero-add, add-suc, suc-add, le_of_suc-le-suc, not-suc-le-zero}
use lib.ListN.{get_or}

-- the rule f at i, i + 1, .., n of them
abbrev pub entries : {A : Type 0} → (ℕ → A) → ℕ → ℕ → List A
entries f i zero = []
entries f i (suc n) = f i ∷ entries f (suc i) n

entry_from : {A : Type 0} (f : ℕ → A) (d : A) (i n k : ℕ) → k < n → get_or (entries f i n) k d ≡ f (i + k)
entry_from f d i zero k h = absurd (not-suc-le-zero h)
entry_from f d i (suc n) zero h = ap f (sym (add-zero i))
entry_from f d i (suc n) (suc k) h = entry_from f d (suc i) n k (le_of_suc-le-suc h) ∙ ap f (suc-add i k ∙ sym (add-suc i k))

pub entry : {A : Type 0} (f : ℕ → A) (d : A) (n k : ℕ) → k < n → get_or (entries f 0 n) k d ≡ f k
entry f d n k h = entry_from f d 0 n k h ∙ ap f (zero-add k)
