-- The calls for C on shelf files have one answer each: of one file, one record and the buffers; and bisection in a file that was checked. Assumes nothing.
use mathlib.Core.List.{List}
use mathlib.Core.Path.{◌≡◌}
use Prim.Native.Nat.{ℕ}
use Rattle.shelf.proofs.Once as shelf
use Rattle.shelf.proofs.RefusedAlike.{bisect_as_find as as_find}
use Rattle.shelf_rescue.proofs.Once as rescue
use Rattle.lexicon_c.specs.Calls.{ChecksForC, FindsForC, BisectsForC, AddsForC, RescuesForC}
use Rattle.lexicon_c.proofs.Telling.{answered_0, tells_once}

module _ {file u v : List ℕ} {m n : ℕ} where
  pub checks_once : ChecksForC file u m → ChecksForC file v n → (u ≡ v) × (m ≡ n)
  checks_once f g =
      let same = shelf.checks_once f.checks g.checks in
      tells_once same f.tells g.tells

module _ {file bytes u v : List ℕ} {m n : ℕ} where
  pub finds_once : FindsForC file bytes u m → FindsForC file bytes v n → (u ≡ v) × (m ≡ n)
  finds_once f g =
      let same = shelf.finds_once f.finds g.finds in
      tells_once same f.tells g.tells

  pub bisects_once : BisectsForC file bytes u m → BisectsForC file bytes v n → (u ≡ v) × (m ≡ n)
  bisects_once f g =
      let same = shelf.bisects_once f.bisects g.bisects in
      tells_once same f.tells g.tells

  pub adds_once : {out a b : List ℕ} → AddsForC file bytes out a u m → AddsForC file bytes out b v n → (a ≡ b) × (u ≡ v) × (m ≡ n)
  adds_once f g =
      let (same, buffer) = shelf.adds_once f.adds g.adds in
      let (numbers, returned) = tells_once same f.tells g.tells in
      (buffer, numbers, returned)

pub rescues_once : {file out marks a b c d u v : List ℕ} {m n : ℕ} → RescuesForC file out marks a c u m → RescuesForC file out marks b d v n
    → (a ≡ b) × (c ≡ d) × (u ≡ v) × (m ≡ n)
rescues_once f g =
    let (same, buffer, third) = rescue.rescues_once f.rescues g.rescues in
    let (numbers, returned) = tells_once same f.tells g.tells in
    (buffer, third, numbers, returned)

-- IN A FILE THAT `lexicon_shelf_check` ANSWERS WITH 0, `lexicon_shelf_bisect` ANSWERS WHAT `lexicon_shelf_find` DOES
pub bisect_as_find : {file bytes c u v : List ℕ} {k m n : ℕ} → ChecksForC file c k → k ≡ 0 → FindsForC file bytes u m → BisectsForC file bytes v n → (u ≡ v) × (m ≡ n)
bisect_as_find check z f g =
    let (n, is) = answered_0 check.tells z in
    let same = as_find check.checks is f.finds g.bisects in
    tells_once same f.tells g.tells
