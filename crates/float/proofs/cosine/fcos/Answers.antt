-- `float::cosine::fcos` meets its contract; Invariants.antt has the argument.
use mathlib.Core.Path.{◌≡◌, refl, ap, ◌∙◌}
use Prim.Native.Nat.{ℕ, zero, suc, ◌-◌, ◌*◌, ◌<◌}
use native.Mathlib.Nat.{lt_irrefl}
use native.Mathlib.Numerals.{sub-one}
use native.Mathlib.Omega.{arith}
use lib.Ieee.{Float, of_bits, binary64}
use Rattle.float.specs.Numbers.{whole, ◌-ᶠ◌, ◌*ᶠ◌, ◌/ᶠ◌}
use Rattle.float.specs.Cosine.{steps, cos_of}
use Rattle.float.proofs.cosine.fcos.Goals as goal

one : of_bits binary64 0x3ff0_0000_0000_0000 ≡ whole 1
unfolding of_bits whole
one = refl

-- a step as the loop takes it, from k to k - 1
stepped : (t : Float) (k : ℕ) (h : Float) → 0 < k → steps t (k - 1) (of_bits binary64 0x3ff0_0000_0000_0000 -ᶠ t /ᶠ whole ((2 * k - 1) * (2 * k)) *ᶠ h) ≡ steps t k h
unfolding steps
stepped t zero h p = absurd (lt_irrefl 0 p)
stepped t (suc k) h p = rw one (simp sub-one)

pub loop-k-init : goal.loop-k-init
unfolding cos_of
loop-k-init c = rw one

pub loop-k-preserved : goal.loop-k-preserved
unfolding whole
loop-k-preserved c = stepped _ c.loop-k.k c.loop-k.h (omega arith) ∙ c.loop-k.invariant

pub returns : goal.returns
unfolding steps
returns c =
    let a = c.args.a in
    let done : 0 ≡ c.loop-k.k = omega arith in
    ap (λ (k : ℕ). steps (a *ᶠ a) k c.loop-k.h) done ∙ c.loop-k.invariant
