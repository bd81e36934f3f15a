-- Equal fractions have equal quotients as doubles, bit for bit: whole numbers up to 2 ^ 53 are doubles exactly, so both quotients round the same fraction.
-- Assumes nothing.
use mathlib.Core.Path.{◌≡◌, sym, ◌∙◌}
use mathlib.Core.Bool.{false}
use Prim.Native.Nat.{ℕ, ◌*◌, ◌^◌, ◌≤◌, ◌<◌}
use lib.Ieee.{binary64}
use lib.Ieee.Scale.{round_same}
use Rattle.float.specs.Numbers.{whole, ◌/ᶠ◌}
use Rattle.float.proofs.Exactly.{whole_exact, quotient_rounded}

-- A × D = C × B GIVES A ÷ B = C ÷ D
pub same_quotient : (a b c d : ℕ) → a ≤ 2 ^ 53 → b ≤ 2 ^ 53 → c ≤ 2 ^ 53 → d ≤ 2 ^ 53 → 0 < b → 0 < d → a * d ≡ c * b → whole a /ᶠ whole b ≡ whole c /ᶠ whole d
same_quotient a b c d ha hb hc hd b-pos d-pos same =
    quotient_rounded (whole_exact a ha) (whole_exact b hb) b-pos
    ∙ round_same binary64 false a b c d b-pos d-pos same
    ∙ sym (quotient_rounded (whole_exact c hc) (whole_exact d hd) d-pos)
