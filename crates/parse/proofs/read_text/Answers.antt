-- `parse::read_text` meets its contract; Invariants.antt has the argument.
use Prim.Native.Nat.{◌+◌}
use mathlib.Core.List.{[], ◌∷◌}
use mathlib.Core.Path.{◌≡◌, refl, sym, ap, ◌∙◌}
use native.Mathlib.Omega.{arith}
use lib.ListN.{get_or, drop}
use lib.Seq.{length-take-le}
use borrow.Author.Rules.{rules}
use Rattle.std.proofs.lemmas.Result.{err_from_is_err_and}
use Rattle.cd.specs.Diagrams.{limit, place, none}
use Rattle.cd.specs.declared.EdgeRef.{EdgeRef}
use Rattle.cd.specs.declared.Node.TheVariants.{Unringed}
use Rattle.cd.specs.declared.NodeRef.TheVariants.{Absolute}
use Rattle.cd.proofs.Arrays.{padded_blank}
use Rattle.cd.proofs.Stored.{nothing_stored}
use Rattle.parse.specs.Text.{Outcome}
use Rattle.parse.specs.Reading.{joined, kept, answer}
use Rattle.parse.proofs.JoinLaws.{next_waiting, ends_below, over, dropped, missing, repeated, added}
use Rattle.parse.proofs.Turns.{Found, After, waits, due_start, found_reference, found_node, node_refused, node_tenth, edge_waits, none_waits, ended, edge_refused, no_edge, an_edge, join_refused, join_accepted}
use Rattle.parse.proofs.read_text.Goals as goal
use Rattle.parse.proofs.read_text.Goals.{In-loop-k, Joined-read, Joined-edge, in-Referred, in-Added+else-count-ge-LIMIT, in-Some, in_default, in-Dropped, in-Both+else-pairs-p-gt0}

-- a node or reference was read, and a node was stored
found : (c : Joined-read) → Found c.loop-read.invariant c.match-read.nodes c.match-read.count c.match-read.this c.in_ok-read.next
found c =
    let i = c.skip_whitespace-i.ensures in
    elim c.match-read.branch [
      | in-Referred w ↦ rw (w.nodes-is, w.count-is, w.this-is) (found_reference c.loop-read.invariant _ _ i.0 i.2 i.1 c.create_node.ensures _ _ (rw w.in-Referred.is at c.in_ok-read.was))
      | in-Added+else-count-ge-LIMIT w ↦ rw (w.nodes-is, w.count-is, w.this-is) (found_node c.loop-read.invariant _ _ i.0 i.2 i.1 c.create_node.ensures _ _ (rw w.in-Added.is at c.in_ok-read.was) w.if-count-ge-LIMIT.false)
    ]

-- the edge that was read before it, if there was one, waits
behind : (c : Joined-edge) → After c.args.wish c.args.s.now c.args.start c.loop-read.at c.match-read.nodes c.match-read.count c.match-edge.queue c.match-read.this c.in_ok-read.next
behind c =
    let k = c.loop-read.invariant in
    let f = found (goal.at.Joined-edge c).Joined-read in
    elim c.match-edge.branch [
      | in-Some w ↦ rw w.queue-is (edge_waits k f w.in-Some.edge w.in-Some.is (let room = rw w.in-Some.is at k.room in omega (arith, room, k.upto, c.requires.1)))
      | in_default w ↦ rw w.queue-is (none_waits k f w.in_default.is)
    ]

abbrev blank : EdgeRef
blank = record { first = Absolute 0; other = Absolute 0; edge = record { num = 0; den = 0 } }

-- the edge at k is the next of the queue
next : (c : In-loop-k) → let q = c.match-edge.queue in
    drop c.loop-k.k (waits q) ≡ get_or q.at c.loop-k.k blank ∷ drop (c.loop-k.k + 1) (waits q)
next c =
    let q = c.match-edge.queue in
    let e = c.loop-k.invariant.2 in
    next_waiting q.at q.count c.loop-k.k blank (omega (arith, e.slots, e.fits)) c.loop-k-test.true

pub loop-read-init : goal.loop-read-init
loop-read-init c = due_start _ _ _ _ _ c.requires.0 (sym (padded_blank (place Unringed) limit)) refl

pub returns-in_err-read : goal.returns-in_err-read
unfolding joined kept answer
returns-in_err-read c =
    let i = c.skip_whitespace-i.ensures in
    let p = err_from_is_err_and c.from_residual.result c.from_residual.ensures.1 in
    rw (p.1, p.2) (sym (ap (λ (o : Outcome). answer (kept (joined o))) (node_refused c.loop-read.invariant _ _ i.0 i.2 i.1 c.create_node.ensures _ c.in_err-read.was)))

pub returns-then-count-ge-LIMIT : goal.returns-then-count-ge-LIMIT
unfolding joined kept answer
returns-then-count-ge-LIMIT c =
    let i = c.skip_whitespace-i.ensures in
    sym (ap (λ (o : Outcome). answer (kept (joined o))) (node_tenth c.loop-read.invariant _ _ i.0 i.2 i.1 c.create_node.ensures _ _ (rw c.in-Added.is at c.in_ok-read.was) c.if-count-ge-LIMIT.true))

pub create_edge-requires : goal.create_edge-requires
create_edge-requires c = let a = behind (goal.at.create_edge-requires c).Joined-edge in (omega (arith, a.ahead), a.upto)

pub returns-in_err-create_edge : goal.returns-in_err-create_edge
unfolding joined kept answer
returns-in_err-create_edge c =
    let a = behind (goal.at.returns-in_err-create_edge c).Joined-edge in
    let p = err_from_is_err_and c.from_residual-in_err-create_edge.result c.from_residual-in_err-create_edge.ensures.1 in
    rw (p.1, p.2) (sym (ap (λ (o : Outcome). answer (kept (joined o))) (edge_refused a c.if-s-next.false _ c.create_edge.ensures _ c.in_err-create_edge.was)))

pub loop-read-smaller-in-None : goal.loop-read-smaller-in-None
loop-read-smaller-in-None c = let a = behind (goal.at.loop-read-smaller-in-None c).Joined-edge in omega (arith, a.ahead, a.upto)

pub loop-read-preserved-in-None : goal.loop-read-preserved-in-None
loop-read-preserved-in-None c =
    no_edge (behind (goal.at.loop-read-preserved-in-None c).Joined-edge) c.if-s-next.false _ c.create_edge.ensures (rw c.in-None.is at c.in_ok-create_edge.was)

pub loop-read-smaller : goal.loop-read-smaller
loop-read-smaller c =
    let a = behind (goal.at.loop-read-smaller c).Joined-edge in
    let k = an_edge a c.if-s-next.false _ c.create_edge.ensures _ _ (rw c.in-Some-2.is at c.in_ok-create_edge.was) in
    omega (arith, a.ahead, k.1, k.0.upto)

pub loop-read-preserved : goal.loop-read-preserved
loop-read-preserved c =
    (an_edge (behind (goal.at.loop-read-preserved c).Joined-edge) c.if-s-next.false _ c.create_edge.ensures _ _ (rw c.in-Some-2.is at c.in_ok-create_edge.was)).0

pub loop-k-init : goal.loop-k-init
loop-k-init c = (
  search rules,
  record { es = []; places = sym nothing_stored; many = refl; going = refl },
  ended (behind (goal.at.loop-k-init c).Joined-edge) c.requires.1 c.if-s-next.true,
)

pub returns-in-Missing : goal.returns-in-Missing
unfolding answer
returns-in-Missing c =
    let i = c.loop-k.invariant in
    join_refused i.2 _ (missing i.1 _ (next (goal.at.returns-in-Missing c).In-loop-k) _ c.indices.ensures c.in-Missing.is)

pub pair_place-p-requires : goal.pair_place-p-requires
pair_place-p-requires c =
    let b = ends_below _ _ _ _ (sym c.indices.ensures ∙ c.in-Both.is) in
    let n = c.loop-k.invariant.2.few in
    (omega (arith, b, n), omega (arith, b, n))

pub returns-then-pairs-p-gt0 : goal.returns-then-pairs-p-gt0
unfolding answer
returns-then-pairs-p-gt0 c =
    let i = c.loop-k.invariant in
    join_refused i.2 _ (repeated i.1 _ (next (goal.at.returns-then-pairs-p-gt0 c).In-loop-k) _ c.indices.ensures _ _ c.in-Both.is i.2.few _ c.pair_place-p.ensures.0 none c.if-pairs-p-gt0.true)

pub loop-k-preserved : goal.loop-k-preserved
loop-k-preserved c =
    let i = c.loop-k.invariant in
    let e = next (goal.at.loop-k-preserved c).In-loop-k in
    elim c.match-indices.branch [
      | in-Dropped w ↦ rw (w.pairs-is, w.edges-is) (omega arith, dropped i.1 _ e _ c.indices.ensures w.in-Dropped.is, i.2)
      | in-Both+else-pairs-p-gt0 w ↦ rw (w.pairs-is, w.edges-is) (omega arith, added i.1 _ e _ c.indices.ensures _ _ w.in-Both.is i.2.few _ w.pair_place-p.ensures.0 none w.if-pairs-p-gt0.false, i.2)
    ]

pub returns : goal.returns
returns c =
    let q = c.match-edge.queue in
    let m = c.loop-k.invariant.1 in
    let e = c.loop-k.invariant.2 in
    rw (m.places, m.many) (join_accepted e m.es (over m (omega (arith, length-take-le q.count q.at (omega (arith, e.slots, e.fits)), c.loop-k-test.false))))
