-- `shelf::check` meets its contract. The invariant: the places passed are right.
use Rattle.cd.specs.Diagrams.{limit}
use Rattle.shelf.specs.Shelves.{RightTo}
use Rattle.shelf.proofs.check.Given as goal

abbrev pub invariant-loop-i : goal.invariant-loop-i
invariant-loop-i l = RightTo limit l.file l.i
