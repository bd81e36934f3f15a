-- How two sequences stand to each other after one more place: what the library's `then` and `cmp` tell. Assumes nothing.
use mathlib.Core.Bool.{true, false, false≢true}
use mathlib.Core.Logic.{◌⊎◌, inl, inr, ◌≢◌}
use mathlib.Core.Path.{◌≡◌, refl, sym, ap, ◌∙◌}
use Prim.Native.Nat.{ℕ, ◌<◌}
use Rattle.std.proofs.lemmas.Cmp.{ranked}
use Rattle.std.specs.Ordering.{ordering_then, nat_cmp, is_lt, is_le, is_gt}
use Rattle.std.specs.declared.cmp.Ordering.{Ordering}
use Rattle.std.specs.declared.cmp.Ordering.TheVariants.{Less, Equal, Greater}

-- the side of what ends with x to what ends with y, s being the side before them
abbrev pub next_side : Ordering → ℕ → ℕ → Ordering
next_side s x y = ordering_then s (nat_cmp x y)

pub next_less : (s : Ordering) (x y : ℕ) → next_side s x y ≡ Less → (s ≡ Less) ⊎ (x < y)
next_less Less x y e = inl refl
next_less Equal x y e = inr (ranked x y Less (sym e))
next_less Greater x y e = absurd (cc)

pub next_equal : (s : Ordering) (x y : ℕ) → next_side s x y ≡ Equal → (s ≡ Equal) × (x ≡ y)
next_equal Less x y e = absurd (cc)
next_equal Equal x y e = (refl, ranked x y Equal (sym e))
next_equal Greater x y e = absurd (cc)

pub next_greater : (s : Ordering) (x y : ℕ) → s ≢ Greater → next_side s x y ≡ Greater → (s ≡ Equal) × (y < x)
next_greater Less x y n e = absurd (cc)
next_greater Equal x y n e = (refl, ranked x y Greater (sym e))
next_greater Greater x y n e = absurd (n refl)

-- what a test tells
pub less_not : (s : Ordering) → is_lt s ≡ false → s ≢ Less
less_not s h e = false≢true (sym h ∙ ap is_lt e)

pub greater_yes : (s : Ordering) → is_gt s ≡ true → s ≡ Greater
greater_yes Less h = absurd (false≢true h)
greater_yes Equal h = absurd (false≢true h)
greater_yes Greater h = refl

pub greater_not : (s : Ordering) → is_gt s ≡ false → s ≢ Greater
greater_not s h e = false≢true (sym h ∙ ap is_gt e)

pub at_most_yes : (s : Ordering) → is_le s ≡ true → s ≢ Greater
at_most_yes s h e = false≢true (sym (ap is_le e) ∙ h)

pub at_most_not : (s : Ordering) → is_le s ≡ false → s ≡ Greater
at_most_not Less h = absurd (false≢true (sym h))
at_most_not Equal h = absurd (false≢true (sym h))
at_most_not Greater h = refl

pub is_less : (s : Ordering) → Dec (s ≡ Less)
is_less Less = yes refl
is_less Equal = no (λ e. cc)
is_less Greater = no (λ e. cc)

pub else_equal : (s : Ordering) → s ≢ Greater → s ≢ Less → s ≡ Equal
else_equal Less a b = absurd (b refl)
else_equal Equal a b = refl
else_equal Greater a b = absurd (a refl)
