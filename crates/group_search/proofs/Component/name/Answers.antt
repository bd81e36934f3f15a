-- `Component::name` meets its contract: the candidate that is found fits, and where none does no name fits (Telling.antt).
use Rattle.std.proofs.Common.{arith, ◌∙◌, ℕ, ◌<◌, ap, get_or}
use Rattle.std.specs.Prelude.{MatchOption}
use Rattle.std.proofs.lemmas.Grind.{common_steps}
use Rattle.cd.specs.Diagrams.{limit}
use Rattle.group_names.specs.declared.Name.TheVariants.{A}
use Rattle.group_search.specs.Steps.{Placed, candidates}
use Rattle.group_search.proofs.Telling.{tells_found}
use Rattle.group_search.proofs.Component.name.Goals as goal

pub returns : goal.returns
returns c =
    let s = c.args.self.now in
    let found : MatchOption c.find.result ((k : ℕ) → k < 10 → Placed limit s.pairs.now s.of.now s.count s.lowest s.size (get_or c.candidates.result k (A 0)) → ⊥) (Placed limit s.pairs.now s.of.now s.count s.lowest s.size) = grind (arith, common_steps) in
    tells_found limit s.pairs.now s.of.now s.inside s.mirrored s.own s.counted c.bond.result (A 0) c.candidates.result c.find.result (c.candidates.ensures ∙ ap (candidates s.size) c.unwrap_or.ensures) c.bond.ensures found
