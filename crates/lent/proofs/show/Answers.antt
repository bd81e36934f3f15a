-- `lent::show` meets its contract: of a refusal, of which nothing is told, it hands over zeros (proofs/Showing.antt).
use Prim.Native.Nat.{ℕ}
use mathlib.Core.List.{List, [], ◌∷◌}
use mathlib.Core.Path.{◌≡◌, refl, sym, ◌∙◌}
use Rattle.cd.specs.Arrays.{padded}
use Rattle.lent.proofs.Showing.{lends_told}
use Rattle.lent.proofs.show.Goals as goal
use Rattle.lent.proofs.show.Goals.{in-Ok, in-Err}

pub returns : goal.returns
unfolding padded
returns g c = elim c.match-r.branch [
  | in-Ok w ↦
      let fs : List ℕ = g.T.Told.told w.in-Ok.x in
      let told : 0 ∷ c.match-r.f.0 ∷ c.match-r.f.1 ∷ c.match-r.f.2 ∷ [] ≡ padded 0 4 (0 ∷ fs) = rw w.f-is w.told-f.ensures in
      lends_told _ _ _ _ fs _ (λ y is. let same = sym w.in-Ok.is ∙ is in cc) (c.show_as.ensures fs told)
  | in-Err w ↦
      let told : 0 ∷ c.match-r.f.0 ∷ c.match-r.f.1 ∷ c.match-r.f.2 ∷ [] ≡ padded 0 4 (0 ∷ []) = rw w.f-is refl in
      lends_told _ _ _ _ [] _ (λ y is. let same = sym w.in-Err.is ∙ is in cc) (c.show_as.ensures [] told)
]
