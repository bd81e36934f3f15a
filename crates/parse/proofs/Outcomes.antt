-- What holds of every text: an accepted one has at most `limit` nodes, and was read to its end, so that the turns allowed never run out. By induction on the
-- turns; each reads a byte. Assumes nothing.
use Prim.Native.Nat.{ℕ, zero, suc, ◌+◌, ◌≤◌}
use mathlib.Core.Bool.{Bool, true, false}
use mathlib.Core.List.{List, [], ◌∷◌, ◌++◌}
use mathlib.Core.Path.{◌≡◌, refl, sym}
use native.Mathlib.Nat.{le_trans}
use native.Mathlib.Omega.{arith}
use borrow.Author.Tests.{leb-false, ltb-true, ltb-false}
use lib.Dec.{ltb, leb}
use lib.ListN.{length, drop, length-append, length-drop}
use Rattle.std.specs.Prelude.{Option, Some, None, Result, Ok, Err}
use Rattle.float.specs.Pick.{pick}
use Rattle.cd.specs.Diagrams.{Stored, limit}
use Rattle.cd.specs.declared.CdError.{CdError}
use Rattle.cd.specs.declared.CdError.TheVariants.{TooManyNodes}
use Rattle.cd.specs.declared.Edge.{Edge}
use Rattle.cd.specs.declared.Node.{Node}
use Rattle.cd.specs.declared.NodeRef.TheVariants.{Absolute}
use Rattle.scan.specs.Spaces.{skip}
use Rattle.scan.specs.Edges.{edge_at}
use Rattle.scan.proofs.Places.{edge_next}
use Rattle.scan.proofs.Spaces.{skip_bounds}
use Rattle.node.specs.Nodes.{Read, node_at}
use Rattle.parse.specs.Text.{Seen, start, Outcome, On, Refused, onto, Joint, Without, With, queued, taken, node_in, after_edge, turn, turns, text_from}
use Rattle.parse.specs.Joining.{Joined, join_all}
use Rattle.parse.specs.Joining as joining
use Rattle.parse.specs.Reading.{Reading, Accepted, with_edges, joined, high, kept, read}
use Rattle.parse.specs.Reading as reading
use Rattle.node.specs.declared.NodeRead.TheVariants as node
use Rattle.node.proofs.Ahead.{read_ahead}

-- reading goes on from lo or later, with at most `limit` nodes
data Fine (lo : ℕ) : Outcome → Type 0 where
  on : {at : ℕ} {st : Seen} → lo ≤ at → length st.nodes ≤ limit → Fine lo (On at st)
  refused : {r : CdError} → Fine lo (Refused r)

fine_onto : {lo hi : ℕ} {o : Outcome} {k : ℕ → Seen → Outcome} → Fine lo o → ((at : ℕ) (st : Seen) → lo ≤ at → length st.nodes ≤ limit → Fine hi (k at st)) → Fine hi (onto o k)
fine_onto (on {at} {st} h f) g = g at st h f
fine_onto refused g = refused

fine_later : {lo hi : ℕ} {o : Outcome} → Fine hi o → lo ≤ hi → Fine lo o
fine_later (on h f) l = on (le_trans l h) f
fine_later refused l = refused

fine_added : (t : Bool) {lo : ℕ} (n : Node) (next i : ℕ) (j : Joint) (st : Seen) → leb limit (length st.nodes) ≡ t → lo ≤ next
    → Fine lo (pick t (Refused (TooManyNodes i)) (On next (record { nodes = st.nodes ++ (n ∷ []); queue = queued j st (Absolute (length st.nodes)); prev = Absolute (length st.nodes) })))
fine_added true n next i j st e h = refused
fine_added false n next i j st e h =
    let l = leb-false limit (length st.nodes) e in
    let f : length (st.nodes ++ (n ∷ [])) ≤ limit = omega (arith, length-append st.nodes (n ∷ [])) in
    on h f

module _ (wish : Bool) (s : List ℕ) where
  fine_taken : (x : Read) (i : ℕ) (j : Joint) (st : Seen) → i ≤ length s → x ≡ node_at wish (drop i s) i → length st.nodes ≤ limit → Fine (i + 1) (taken x i j st)
  unfolding taken
  fine_taken (Err r) i j st h e f = refused
  fine_taken (Ok (node.Referred this, next)) i j st h e f = let l : i + 1 ≤ next = omega (arith, read_ahead wish s i (node.Referred this) next h (sym e)) in on l f
  fine_taken (Ok (node.Added n, next)) i j st h e f = fine_added (leb limit (length st.nodes)) n next i j st refl (omega (arith, read_ahead wish s i (node.Added n) next h (sym e)))

  fine_node : (at : ℕ) (j : Joint) (st : Seen) → at ≤ length s → length st.nodes ≤ limit → Fine (at + 1) (node_in wish s at j st)
  unfolding node_in
  fine_node at j st h f =
      let i = skip (drop at s) at in
      let b = skip_bounds (drop at s) at in
      fine_later (fine_taken (node_at wish (drop i s) i) i j st (omega (arith, b, length-drop at s)) refl f) (omega (arith, b))

  fine_after : (x : Result (Option (Edge × ℕ)) CdError) (at : ℕ) (st : Seen) → at ≤ length s → x ≡ edge_at s at → length st.nodes ≤ limit → Fine (at + 1) (after_edge wish x s at st)
  unfolding after_edge
  fine_after (Ok None) at st h e f = fine_node at Without st h f
  fine_after (Ok (Some (d, next))) at st h e f = let b = edge_next s at d next h (sym e) in fine_later (fine_node next (With d) st b.1 f) (omega (arith, b))
  fine_after (Err r) at st h e f = refused

  fine_turn : (at : ℕ) (st : Seen) → at ≤ length s → length st.nodes ≤ limit → Fine (at + 1) (turn wish s at st)
  unfolding turn
  fine_turn at st h f = fine_after (edge_at s at) at st h refl f

  -- with a turn allowed for each byte that remains, reading comes to the end
  fine_turns : (n at : ℕ) (st : Seen) → length s ≤ n + at → length st.nodes ≤ limit → Fine (length s) (turns wish n s at st)
  unfolding turns
  fine_turns zero at st h f = let l : length s ≤ at = omega arith in on l f
  fine_turns (suc n) at st h f = remain (ltb at (length s)) refl (λ at' st' h' f'. fine_turns n at' st' h' f')
    where
      remain : (t : Bool) → ltb at (length s) ≡ t → ((at' : ℕ) (st' : Seen) → length s ≤ n + at' → length st'.nodes ≤ limit → Fine (length s) (turns wish n s at' st'))
          → Fine (length s) (pick t (onto (turn wish s at st) (turns wish n s)) (On at st))
      remain true e g =
          let l = ltb-true at (length s) e in
          fine_onto (fine_turn at st (omega arith) f) (λ at' st' h' f'. g at' st' (omega arith) f')
      remain false e g = on (ltb-false at (length s) e) f

  text_fine : (at : ℕ) → at ≤ length s → Fine (length s) (text_from wish s at)
  unfolding text_from
  text_fine at h = fine_onto (fine_node at Without start h (omega arith)) (λ at' st' h' f'. fine_turns (length s) at' st' (omega arith) f')

ended : {lo at : ℕ} {st : Seen} → Fine lo (On at st) → (lo ≤ at) × (length st.nodes ≤ limit)
ended (on h f) = (h, f)

-- the turns allowed never run out: where reading stops without a refusal, the text has ended
pub whole_text : (wish : Bool) (s : List ℕ) (at i : ℕ) (st : Seen) → at ≤ length s → text_from wish s at ≡ On i st → length s ≤ i
whole_text wish s at i st h e = (ended (rw e at (text_fine wish s at h))).0

-- ---- an accepted text

-- an accepted reading has at most `limit` nodes
data Few : Reading → Type 0 where
  accepted : {ns : List Node} {es : List Stored} → length ns ≤ limit → Few (Accepted ns es)
  refused : {r : CdError} → Few (reading.Refused r)

few_edges : (ns : List Node) (j : Joined) → length ns ≤ limit → Few (with_edges ns j)
unfolding with_edges
few_edges ns (joining.Edges es) h = accepted h
few_edges ns (joining.Refused r) h = refused

few_joined : {lo : ℕ} {o : Outcome} → Fine lo o → Few (joined o)
unfolding joined
few_joined (on {at} {st} h f) = few_edges st.nodes (join_all (length st.nodes) st.queue 0 []) f
few_joined refused = refused

few_picked : (t : Bool) {x y : Reading} → Few x → Few y → Few (pick t x y)
few_picked true f g = f
few_picked false f g = g

few_kept : {x : Reading} → Few x → Few (kept x)
unfolding kept
few_kept (accepted h) = accepted h
few_kept refused = refused

few_read : (wish : Bool) (s : List ℕ) → Few (read wish s)
unfolding read
few_read wish s = few_kept (few_picked (ltb 255 (length s)) refused (few_picked (ltb (high s 0) (length s)) refused (few_joined (text_fine wish s 0 (omega arith)))))

few_nodes : {ns : List Node} {es : List Stored} → Few (Accepted ns es) → length ns ≤ limit
few_nodes (accepted h) = h

pub accepted_few : (wish : Bool) (s : List ℕ) (ns : List Node) (es : List Stored) → read wish s ≡ Accepted ns es → length ns ≤ limit
accepted_few wish s ns es e = few_nodes (rw e at (few_read wish s))
