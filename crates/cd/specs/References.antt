-- Document 01, "Nodes and edges": "A reference is an index, or an offset k from the end, meaning node count − 1 − k."
use Rattle.std.specs.Prelude.{ℕ, ◌-◌, ltb, Option, Some, None}
use Rattle.float.specs.Pick.{pick}
use Rattle.cd.specs.Edges.{is_two}
use Rattle.cd.specs.declared.EdgeRef.{EdgeRef}
use Rattle.cd.specs.declared.NodeRef.{NodeRef}
use Rattle.cd.specs.declared.NodeRef.TheVariants.{Absolute, Negative}
use Rattle.cd.specs.declared.Ends.{Ends}
use Rattle.cd.specs.declared.Ends.TheVariants as ends

-- the node meant, of n, if there is one
unfoldable pub index_of : NodeRef → ℕ → Option ℕ
index_of (Absolute k) n = pick (ltb k n) (Some k) None
index_of (Negative k) n = pick (ltb k n) (Some (n - 1 - k)) None

unfoldable pub both_of : Option ℕ → Option ℕ → Ends
both_of None b = ends.Missing
both_of (Some a) None = ends.Missing
both_of (Some a) (Some b) = ends.Both a b

-- "a two is dropped unseen; otherwise both references must exist"
unfoldable pub ends_of : EdgeRef → ℕ → Ends
unfolding index_of both_of
ends_of e n = let r = both_of (index_of e.first n) (index_of e.other n) in pick (is_two e.edge) ends.Dropped r
