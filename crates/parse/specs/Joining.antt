-- Document 01, "Reading": "After the text they are joined in order: a two is dropped unseen; otherwise both references must exist, and the pair, in either
-- order, must have no edge. A loop (a node joined to itself) is stored."
use Rattle.std.specs.Prelude.{ℕ, ◌+◌, List, [], ◌∷◌, ◌++◌}
use Rattle.float.specs.Pick.{pick}
use Rattle.cd.specs.Diagrams.{Stored, is_joined}
use Rattle.cd.specs.References.{ends_of}
use Rattle.cd.specs.declared.CdError.{CdError}
use Rattle.cd.specs.declared.CdError.TheVariants.{RepeatEdge, MissingNode}
use Rattle.cd.specs.declared.Edge.{Edge}
use Rattle.cd.specs.declared.EdgeRef.{EdgeRef}
use Rattle.cd.specs.declared.Ends.{Ends}
use Rattle.cd.specs.declared.Ends.TheVariants.{Dropped, Missing, Both}

-- the edges stored so far, or a refusal
pub data Joined : Type 0 where
  Edges : List Stored → Joined
  Refused : CdError → Joined

-- "11, a missing reference (edge's place in the queue, from 0); 8, a repeated pair (both nodes' indices, in queued order)"
unfoldable pub join_one : Ends → Edge → ℕ → List Stored → Joined
unfolding is_joined
join_one Dropped e k es = Edges es
join_one Missing e k es = Refused (MissingNode k)
join_one (Both a b) e k es = pick (is_joined es a b) (Refused (RepeatEdge a b)) (Edges (es ++ (record { first = a; other = b; edge = e } ∷ [])))

abbrev pub onto : Joined → (List Stored → Joined) → Joined
onto (Edges es) f = f es
onto (Refused r) f = Refused r

-- the edges that wait, the first of them having the place k, of n nodes
unfoldable pub join_all : ℕ → List EdgeRef → ℕ → List Stored → Joined
unfolding join_one
join_all n [] k es = Edges es
join_all n (e ∷ q) k es = onto (join_one (ends_of e n) e.edge k es) (join_all n q (k + 1))
