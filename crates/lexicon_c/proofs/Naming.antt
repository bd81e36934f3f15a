-- The call for C that names groups has one answer: of one text, one wish and one buffer. Assumes nothing.
use mathlib.Core.Bool.{Bool}
use mathlib.Core.List.{List}
use mathlib.Core.Path.{◌≡◌, sym, ap, ◌∙◌}
use Prim.Native.Nat.{ℕ}
use lib.ListN.{length, get_or}
use Rattle.lent.specs.Outcomes.{fitted, lent, told}
use Rattle.lent.specs.Shown.{of_groups}
use Rattle.lexicon_names.proofs.OneAnswer.{one_answer}
use Rattle.lexicon_c.specs.Calls.{NamesForC}

pub names_once : {wish : Bool} {text out a b u v : List ℕ} {m n : ℕ} → NamesForC wish text out a u m → NamesForC wish text out b v n → (a ≡ b) × (u ≡ v) × (m ≡ n)
names_once {out = out} f g =
    let same = ap (λ z. fitted (length out) (of_groups z)) (one_answer f.names g.names) in
    let numbers = f.lends.answer ∙ ap told same ∙ sym g.lends.answer in
    (f.lends.slice ∙ ap (λ o. lent o out) same ∙ sym g.lends.slice, numbers, f.lends.returned ∙ ap (λ z. get_or z 0 0) numbers ∙ sym g.lends.returned)
