-- `blocks::Listed::add` meets its contract: a number that is not listed is put behind the others.
use mathlib.Core.List.{[], ◌∷◌, ◌++◌}
use mathlib.Core.Path.{◌≡◌, ap, ◌∙◌}
use Prim.Native.Nat.{◌+◌}
use native.Mathlib.Numerals.{add-one}
use native.Mathlib.Omega.{arith}
use lib.ListN.{set, take, length, length-append, length-take}
use lib.Seq.{take-suc-set}
use Rattle.std.proofs.lemmas.List.Elements.{Contains-append_left, Contains-push}
use Rattle.blocks.proofs.ranks.Listed.add.Goals as goal

pub returns-then-not-contains : goal.returns-then-not-contains
returns-then-not-contains c =
    let l = c.self.inside in
    let x = c.args.x in
    let e : take (l.count + 1) (set l.at l.count x) ≡ c.args.self.now ++ (x ∷ []) =
    rw add-one (take-suc-set l.at l.count x (omega (arith, c.self.told, c.requires, ap length c.self.view_is, length-take l.count l.at)) ∙ ap (λ z. z ++ (x ∷ [])) c.self.view_is) in
    rw e (omega (arith, length-append c.args.self.now (x ∷ [])), λ y h. Contains-append_left _ _ y h, Contains-push _ x)
