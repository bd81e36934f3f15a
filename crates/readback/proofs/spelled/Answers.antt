-- `readback::spelled` meets its contract: what its bytes spell is a diagram, so the nodes can be read, and nodes and edges are those of the definition.
use Rattle.cd.specs.Diagrams.{limit, cd_of}
use Rattle.readback.proofs.Nodes.{length_nodes_to}
use Rattle.readback.proofs.SpelledDiagrams.{spelled_few, spelled_nodes}
use Rattle.readback.proofs.spelled.Goals as goal

pub read_nodes-nodes-requires : goal.read_nodes-nodes-requires
read_nodes-nodes-requires c = (spelled_few limit _ c.requires, spelled_nodes limit _ c.requires)

pub read_edges-edges-requires : goal.read_edges-edges-requires
read_edges-edges-requires c = spelled_few limit _ c.requires

pub returns : goal.returns
unfolding cd_of
returns c = let e = c.read_edges-edges.ensures in rw (c.read_nodes-nodes.ensures, e.pairs, e.count, length_nodes_to)
