-- `group_search::groups` meets its contract. The invariant: the list stands before node c (Listing.antt).
use Rattle.cd.specs.Diagrams.{limit}
use Rattle.group_search.proofs.Listing.{Stands}
use Rattle.group_search.proofs.groups.Given as goal

abbrev pub invariant-loop-c : goal.invariant-loop-c
invariant-loop-c l = Stands limit l.pairs l.of l.cd.count l.c l.out
