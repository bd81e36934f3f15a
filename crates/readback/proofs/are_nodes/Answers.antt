-- `readback::are_nodes` meets its contract.
use borrow.Author.Rules.{rules}
use Rattle.filing.specs.Diagrams.{IsNode}
use Rattle.filing.specs.Readable.{node_at}
use Rattle.readback.proofs.Every.{all_decides}
use Rattle.readback.proofs.are_nodes.Goals as goal

pub returns : goal.returns
returns c = all_decides _ _ (λ i. IsNode (node_at c.args.s.now i)) _ (search rules) (λ i b l call. search rules) _ c.all.ensures.runs
