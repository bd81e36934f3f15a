-- Edges in lowest terms join as those typed do: what is worth 2 remains so, and what an edge joins does not depend on its fraction. So the queue may hold
-- either, and the edges stored are those of document 01 in lowest terms. Assumes nothing.
use Prim.Native.Nat.{ℕ, ◌+◌}
use mathlib.Core.Bool.{Bool, true, false, ◌||◌}
use mathlib.Core.List.{List, [], ◌∷◌, ◌++◌, map, map-append}
use mathlib.Core.Path.{◌≡◌, refl, sym, ap, ◌∙◌}
use native.Mathlib.Omega.{arith}
use Rattle.float.specs.Pick.{pick}
use Rattle.cd.specs.Diagrams.{Stored, joins, is_joined}
use Rattle.cd.specs.Edges.{reduced}
use Rattle.cd.specs.References.{ends_of}
use Rattle.cd.specs.declared.CdError.TheVariants.{RepeatEdge}
use Rattle.cd.specs.declared.Edge.{Edge}
use Rattle.cd.specs.declared.EdgeRef.{EdgeRef}
use Rattle.cd.specs.declared.Ends.{Ends}
use Rattle.cd.specs.declared.Ends.TheVariants.{Dropped, Missing, Both}
use Rattle.cd.specs.declared.Node.{Node}
use Rattle.cd.specs.declared.NodeRef.{NodeRef}
use Rattle.cd.proofs.LowestTerms.{reduced_two}
use Rattle.parse.specs.Text.{Seen, Joint, Without, With, queued}
use Rattle.parse.specs.Joining.{Joined, Edges, Refused, onto, join_one, join_all}
use Rattle.parse.specs.Reading.{Reading, Accepted, kept_edge, kept, with_edges, typed, read}
use Rattle.parse.specs.Reading as reading

-- ---- the edges that wait

abbrev pub kept_ref : EdgeRef → EdgeRef
kept_ref e = record { first = e.first; other = e.other; edge = reduced e.edge }

abbrev pub kept_joint : Joint → Joint
kept_joint Without = Without
kept_joint (With e) = With (reduced e)

abbrev pub kept_seen : Seen → Seen
kept_seen st = record { nodes = st.nodes; queue = map kept_ref st.queue; prev = st.prev }

pub queued_kept : (j : Joint) (st : Seen) (this : NodeRef) → map kept_ref (queued j st this) ≡ queued (kept_joint j) (kept_seen st) this
unfolding queued
queued_kept Without st this = refl
queued_kept (With e) st this = map-append kept_ref st.queue (record { first = st.prev; other = this; edge = e } ∷ [])

-- ---- the edges stored

abbrev kept_joined : Joined → Joined
kept_joined (Edges es) = Edges (map kept_edge es)
kept_joined (Refused r) = Refused r

ends_kept : (e : EdgeRef) (n : ℕ) → ends_of (kept_ref e) n ≡ ends_of e n
unfolding ends_of
ends_kept e n = rw (reduced_two e.edge)

pub joined_kept : (es : List Stored) (a b : ℕ) → is_joined (map kept_edge es) a b ≡ is_joined es a b
unfolding is_joined joins
joined_kept [] a b = refl
joined_kept (s ∷ es) a b = ap (λ t. joins a b s || t) (joined_kept es a b)

-- a pair that has an edge is refused, another is stored
join_picked : (t : Bool) (a b : ℕ) (e : Edge) (es : List Stored) →
    pick t (Refused (RepeatEdge a b)) (Edges (map kept_edge es ++ (record { first = a; other = b; edge = reduced e } ∷ [])))
    ≡ kept_joined (pick t (Refused (RepeatEdge a b)) (Edges (es ++ (record { first = a; other = b; edge = e } ∷ []))))
join_picked true a b e es = refl
join_picked false a b e es = ap Edges (sym (map-append kept_edge es (record { first = a; other = b; edge = e } ∷ [])))

join_one_kept : (x : Ends) (e : Edge) (k : ℕ) (es : List Stored) → join_one x (reduced e) k (map kept_edge es) ≡ kept_joined (join_one x e k es)
unfolding join_one
join_one_kept Dropped e k es = refl
join_one_kept Missing e k es = refl
join_one_kept (Both a b) e k es = rw (joined_kept es a b) (join_picked (is_joined es a b) a b e es)

onto_kept : (j : Joined) (f g : List Stored → Joined) → ((es : List Stored) → f (map kept_edge es) ≡ kept_joined (g es)) → onto (kept_joined j) f ≡ kept_joined (onto j g)
onto_kept (Edges es) f g h = h es
onto_kept (Refused r) f g h = refl

join_all_kept : (n : ℕ) (q : List EdgeRef) (k : ℕ) (es : List Stored) → join_all n (map kept_ref q) k (map kept_edge es) ≡ kept_joined (join_all n q k es)
unfolding join_all
join_all_kept n [] k es = refl
join_all_kept n (e ∷ q) k es =
    rw (ends_kept e n, join_one_kept (ends_of e n) e.edge k es)
    (onto_kept (join_one (ends_of e n) e.edge k es) (join_all n (map kept_ref q) (k + 1)) (join_all n q (k + 1)) (join_all_kept n q (k + 1)))

-- THE QUEUE IN LOWEST TERMS, JOINED, GIVES WHAT IS KEPT OF THE QUEUE AS TYPED
pub reading_kept : (ns : List Node) (n : ℕ) (q : List EdgeRef) → kept (with_edges ns (join_all n q 0 [])) ≡ with_edges ns (join_all n (map kept_ref q) 0 [])
unfolding kept with_edges
reading_kept ns n q = with_kept (join_all n q 0 []) ∙ ap (with_edges ns) (sym (join_all_kept n q 0 []))
  where
    with_kept : (j : Joined) → kept (with_edges ns j) ≡ with_edges ns (kept_joined j)
    with_kept (Edges es) = refl
    with_kept (Refused r) = refl

-- ---- an accepted text

-- its edges as typed
pub record AsTyped (wish : Bool) (s : List ℕ) (ns : List Node) (es : List Stored) : Type 0 where
  pub edges : List Stored
  pub read : typed wish s ≡ Accepted ns edges
  pub kept : es ≡ map kept_edge edges

pub as_typed : (wish : Bool) (s : List ℕ) (ns : List Node) (es : List Stored) → read wish s ≡ Accepted ns es → AsTyped wish s ns es
unfolding read typed kept
as_typed wish s ns es h = of (typed wish s) refl h
  where
    of : (x : Reading) → typed wish s ≡ x → kept x ≡ Accepted ns es → AsTyped wish s ns es
    of (Accepted ms ts) e k = record { edges = ts; read = e ∙ cc; kept = cc }
    of (reading.Refused r) e k = absurd (let z : ◌≡◌ {A = ℕ} 0 1 = cc in omega arith)
