-- `readback::read_nodes` meets its contract. The invariant: the array holds the nodes below i.
use mathlib.Core.List.{map}
use mathlib.Core.Path.{◌≡◌}
use Rattle.cd.specs.Arrays.{padded}
use Rattle.cd.specs.Diagrams.{limit, place}
use Rattle.cd.specs.declared.Node.TheVariants.{Unringed}
use Rattle.readback.specs.Spelled.{nodes_to}
use Rattle.readback.proofs.read_nodes.Given as goal

abbrev pub invariant-loop-i : goal.invariant-loop-i
invariant-loop-i l = l.out ≡ padded (place Unringed) limit (map place (nodes_to l.s l.i))
