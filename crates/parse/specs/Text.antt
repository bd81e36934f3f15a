-- Document 01, "Reading": "A text is a node, then, while bytes remain, an optional edge and a node." Nodes and the edges that wait, in the order read.
use Prim.Native.Nat.{ℕ, zero, suc}
use Rattle.std.specs.Prelude.{Bool, List, [], ◌∷◌, ◌++◌, ltb, leb, Option, Some, None, Result, Ok, Err, length, drop}
use Rattle.float.specs.Pick.{pick}
use Rattle.cd.specs.Diagrams.{limit}
use Rattle.cd.specs.declared.CdError.{CdError}
use Rattle.cd.specs.declared.CdError.TheVariants.{TooManyNodes}
use Rattle.cd.specs.declared.Edge.{Edge}
use Rattle.cd.specs.declared.EdgeRef.{EdgeRef}
use Rattle.cd.specs.declared.Node.{Node}
use Rattle.cd.specs.declared.NodeRef.{NodeRef}
use Rattle.cd.specs.declared.NodeRef.TheVariants.{Absolute}
use Rattle.scan.specs.Spaces.{skip}
use Rattle.scan.specs.Edges.{edge_at}
use Rattle.node.specs.Nodes.{Read, node_at}
use Rattle.node.specs.declared.NodeRead.TheVariants as node

-- what was read: the nodes, the edges that wait, and the last node or reference
pub record Seen : Type 0 where
  pub nodes : List Node
  pub queue : List EdgeRef
  pub prev : NodeRef

abbrev pub start : Seen
start = record { nodes = []; queue = []; prev = Absolute 0 }

-- reading goes on at a position, or the text is refused
pub data Outcome : Type 0 where
  On : ℕ → Seen → Outcome
  Refused : CdError → Outcome

abbrev pub onto : Outcome → (ℕ → Seen → Outcome) → Outcome
onto (On at st) k = k at st
onto (Refused r) k = Refused r

-- the edge before a node or reference, if there is one
pub data Joint : Type 0 where
  Without : Joint
  With : Edge → Joint

-- "An edge joins the previous node or reference to the next. Edges wait in a queue"
unfoldable pub queued : Joint → Seen → NodeRef → List EdgeRef
queued Without st this = st.queue
queued (With e) st this = st.queue ++ (record { first = st.prev; other = this; edge = e } ∷ [])

-- a reference adds no node; "10, a tenth node, read without fault (its first byte)"
unfoldable pub taken : Read → ℕ → Joint → Seen → Outcome
unfolding queued
taken (Err r) i x st = Refused r
taken (Ok (node.Referred this, next)) i x st = On next (record { nodes = st.nodes; queue = queued x st this; prev = this })
taken (Ok (node.Added n, next)) i x st =
    let this = Absolute (length st.nodes) in
    pick (leb limit (length st.nodes)) (Refused (TooManyNodes i)) (On next (record { nodes = st.nodes ++ (n ∷ []); queue = queued x st this; prev = this }))

-- Document 02, K6: "Reading should turn infinite lengths down by default." All that follows is over the wish for them; a literal's node asks for it.
module _ (wish : Bool) where
  -- "Node: skip spaces."
  unfoldable pub node_in : List ℕ → ℕ → Joint → Seen → Outcome
  unfolding taken
  node_in s at x st = let i = skip (drop at s) at in taken (node_at wish (drop i s) i) i x st

  unfoldable pub after_edge : Result (Option (Edge × ℕ)) CdError → List ℕ → ℕ → Seen → Outcome
  unfolding node_in
  after_edge (Ok None) s at st = node_in s at Without st
  after_edge (Ok (Some (e, next))) s at st = node_in s next (With e) st
  after_edge (Err r) s at st = Refused r

  -- "an optional edge and a node"
  unfoldable pub turn : List ℕ → ℕ → Seen → Outcome
  unfolding after_edge
  turn s at st = after_edge (edge_at s at) s at st

  -- "while bytes remain", for at most so many turns: each reads a byte, and `whole_text` in proofs/Outcomes.antt says that the length of the text is enough
  unfoldable pub turns : ℕ → List ℕ → ℕ → Seen → Outcome
  unfolding turn
  turns zero s at st = On at st
  turns (suc n) s at st = let r = onto (turn s at st) (turns n s) in pick (ltb at (length s)) r (On at st)

  -- the text from `at` on
  unfoldable pub text_from : List ℕ → ℕ → Outcome
  unfolding turns
  text_from s at = onto (node_in s at Without start) (turns (length s) s)
