-- `replay_search::count` is safe and ends: the diagram of an accepted text can be filed.
use Rattle.std.proofs.Common.{true}
use Rattle.lexicon.proofs.Answers.{accepts, read_few}
use Rattle.lexicon.proofs.Fileable.{accepted_numbers}
use Rattle.parse.specs.Reading.{read}
use Rattle.tables.proofs.TableLayouts.{numbers_held}
use Rattle.replay_search.proofs.count.Goals as goal

pub of-requires : goal.of-requires
of-requires c =
    let a = accepts (read true c.args.text.now) _ c.in_ok-cd.ensures in
    (numbers_held _ a.ns a.es a.held (accepted_numbers _ _ a.ns a.es a.is), read_few _ _ _ c.in_ok-cd.ensures)
