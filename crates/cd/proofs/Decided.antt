-- Tests that decide a statement, two that are not both true, and a loop that decides a statement for all numbers below a bound. Assumes nothing.
use mathlib.Core.Bool.{Bool, true, false, not, ◌&&◌, true≢false}
use mathlib.Core.Path.{◌≡◌, refl, sym, ◌∙◌}
use Prim.Native.Nat.{ℕ, ◌<◌}
use Rattle.cd.specs.Minimal.{Decides}

pub decides_yes : {P : Type 0} → P → Decides P true
decides_yes p = record { only_when = λ _. p; when = λ _. refl }

pub decides_no : {P : Type 0} → (P → ⊥) → Decides P false
decides_no n = record { only_when = λ e. absurd (true≢false (sym e)); when = λ p. absurd (n p) }

-- by either answer
pub decides_by : {P : Type 0} (r : Bool) → (r ≡ true → P) → (r ≡ false → P → ⊥) → Decides P r
decides_by true y n = decides_yes (y refl)
decides_by false y n = decides_no (n refl)

-- a test that fails refutes
pub refutes : {P : Type 0} {r : Bool} → Decides P r → r ≡ false → P → ⊥
refutes d e p = true≢false (sym (d.when p) ∙ e)

pub decides_same : {P Q : Type 0} {r : Bool} → (P → Q) → (Q → P) → Decides P r → Decides Q r
decides_same to from d = record { only_when = λ e. to (d.only_when e); when = λ q. d.when (from q) }

pub decides_not : {P : Type 0} {r : Bool} → Decides P r → Decides (P → ⊥) (not r)
decides_not {r = true} d = decides_no (λ n. n (d.only_when refl))
decides_not {r = false} d = decides_yes (refutes d refl)

-- two tests that are not both true
pub and_false : (p q : Bool) → (p ≡ true → q ≡ true → ⊥) → p && q ≡ false
and_false true true h = absurd (h refl refl)
and_false true false h = refl
and_false false q h = refl

-- it fails at one of the numbers below n
pub decides_not_all : (P : ℕ → Type 0) {i n : ℕ} {r : Bool} → i < n → Decides (P i) r → r ≡ false → Decides ((k : ℕ) → k < n → P k) false
decides_not_all P {i} h d e = decides_no (λ all. refutes d e (all i h))
