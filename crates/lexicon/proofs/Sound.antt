-- What holds of the diagram of every accepted text, the edges as typed: a node's value is a double and no nan, without the wish no infinity, an edge is valid and of 32-bit numbers, and
-- the edges are tidy. By induction on the turns of reading, then on the queue: a run refuses a part of 2 ^ 32 or more as it closes, so no edge that waits has one, and
-- joining stores only edges that waited and are no two, at indices below the number of nodes, where no edge is stored yet. Assumes nothing.
use Rattle.std.specs.Prelude.{Option, Some, None, Result, Ok, Err}
use Rattle.std.specs.Option.{IfSome}
use Rattle.std.specs.Result.{IfOk}
use Prim.Native.Nat.{ℕ, zero, suc, ◌+◌, ◌-◌, ◌^◌, ◌<◌}
use mathlib.Core.Bool.{Bool, true, false, and-eq-true_iff}
use mathlib.Core.List.{List, [], ◌∷◌, ◌++◌}
use mathlib.Core.Path.{◌≡◌, refl}
use native.Mathlib.Omega.{arith}
use borrow.Author.Tests.{ltb-true}
use lib.Dec.{ltb, leb}
use lib.ListN.{length, drop}
use Rattle.float.specs.Pick.{pick}
use Rattle.cd.specs.Diagrams.{Stored, limit, is_joined}
use Rattle.cd.specs.Edges.{is_edge, is_two}
use Rattle.cd.specs.References.{index_of, both_of, ends_of}
use Rattle.cd.specs.declared.CdError.{CdError}
use Rattle.cd.specs.declared.CdError.TheVariants.{RepeatEdge}
use Rattle.cd.specs.declared.Edge.{Edge}
use Rattle.cd.specs.declared.EdgeRef.{EdgeRef}
use Rattle.cd.specs.declared.Ends.{Ends}
use Rattle.cd.specs.declared.Ends.TheVariants as ends
use Rattle.cd.specs.declared.Node.{Node}
use Rattle.cd.specs.declared.NodeRef.{NodeRef}
use Rattle.cd.specs.declared.NodeRef.TheVariants.{Absolute, Negative}
use Rattle.scan.specs.Bytes.{is_digit}
use Rattle.scan.specs.Spaces.{skip}
use Rattle.scan.specs.Edges.{Read, if_any, sort_of, Part, empty, longer, closes, edge, last_two, by_sort, run, optional, edge_at}
use Rattle.scan.specs.declared.Sort.{Sort}
use Rattle.scan.specs.declared.Sort.TheVariants.{Digit, Slash, Terminator, Other}
use Rattle.scan.proofs.Places.{edge_valid}
use Rattle.node.specs.Nodes as node
use Rattle.parse.specs.Text.{Seen, start, Outcome, On, onto, Joint, Without, With, queued, taken, node_in, after_edge, turn, turns, text_from}
use Rattle.parse.specs.Text as text
use Rattle.parse.specs.Joining.{Joined, Edges, join_one, join_all}
use Rattle.parse.specs.Joining as joining
use Rattle.parse.specs.Reading.{Reading, Accepted, with_edges, joined, high, typed}
use Rattle.parse.specs.Reading as reading
use Rattle.lexicon.specs.All.{All, nil, cons}
use Rattle.lexicon.proofs.SoundNodes.{picked, tested, SoundRead, node_sound}
pub use Rattle.lexicon.proofs.SoundNodes.{Sound, unringed, ringed, snub}
use Rattle.lexicon.proofs.SoundNodes as nodes
use Rattle.lexicon.proofs.Tidy.{Tidy, more}
use Rattle.lexicon.proofs.Tidy as tidy

-- a valid edge of 32-bit numbers, den being below num
pub record SoundEdge (s : Stored) : Type 0 where
  pub num_fits : s.edge.num < 2 ^ 32
  pub valid : is_edge s.edge.num s.edge.den ≡ true

all_append : {A : Type 0} {P : A → Type 0} {xs : List A} {x : A} → All P xs → P x → All P (xs ++ (x ∷ []))
all_append nil h = cons h nil
all_append (cons k ks) h = cons k (all_append ks h)

-- ---- an edge that was read

-- the part before, if there is one, is a 32-bit number
abbrev Small : Option ℕ → Type 0
Small before = IfSome before (λ n. n < 2 ^ 32)

-- if an edge was read, its num is one
abbrev SmallRead : Read → Type 0
SmallRead x = IfOk x (λ r. r.0.num < 2 ^ 32)

abbrev SmallIfAny : Result (Option (Edge × ℕ)) CdError → Type 0
SmallIfAny x = IfOk x (λ o. IfSome o (λ r. r.0.num < 2 ^ 32))

small_closes : (p : Part) → closes p ≡ true → p.value < 2 ^ 32
unfolding closes
small_closes p h = ltb-true p.value (2 ^ 32) ((and-eq-true_iff (ltb p.value (2 ^ 32)) p.some).0 h).0

small_sorted : (x y z w : Read) (t : Sort) → SmallRead x → SmallRead y → SmallRead z → SmallRead w → SmallRead (by_sort t x y z w)
unfolding by_sort
small_sorted x y z w Digit a b c d = a
small_sorted x y z w Slash a b c d = b
small_sorted x y z w Terminator a b c d = c
small_sorted x y z w Other a b c d = d

small_last_two : (before : Option ℕ) (last i : ℕ) → Small before → last < 2 ^ 32 → SmallRead (last_two before last i)
unfolding last_two edge
small_last_two None last i h l = picked SmallRead (is_edge last 1) l tt
small_last_two (Some n) last i h l = picked SmallRead (is_edge n last) h tt

small_run : (bs : List ℕ) (i : ℕ) (before : Option ℕ) (p : Part) → Small before → SmallRead (run bs i before p)
unfolding run
small_run [] i before p h = tt
small_run (b ∷ bs) i before p h =
    small_sorted _ _ _ _ (sort_of b)
    (small_run bs (i + 1) before (longer p b) h)
    (tested SmallRead (closes p) (λ c. small_run bs (i + 1) (Some p.value) empty (small_closes p c)) tt)
    (tested SmallRead (closes p) (λ c. small_last_two before p.value i h (small_closes p c)) tt)
    tt

small_if_any : (x : Read) → SmallRead x → SmallIfAny (if_any x)
small_if_any (Ok r) h = h
small_if_any (Err e) h = tt

small_optional : (bs : List ℕ) (i : ℕ) → SmallIfAny (optional bs i)
unfolding optional
small_optional [] i = tt
small_optional (b ∷ bs) i = picked SmallIfAny (is_digit b) (small_if_any (run (b ∷ bs) i None empty) (small_run (b ∷ bs) i None empty tt)) tt

small_edge : (s : List ℕ) (at : ℕ) → SmallIfAny (edge_at s at)
unfolding edge_at
small_edge s at = let i = skip (drop at s) at in small_optional (drop i s) i

-- ---- nodes and the edges that wait

-- what holds of an edge wherever it was read
abbrev IsFraction : Edge → Type 0
IsFraction e = (e.num < 2 ^ 32) × (is_edge e.num e.den ≡ true)

abbrev Waits : EdgeRef → Type 0
Waits e = IsFraction e.edge

-- the nodes and the edges that wait are sound
record SoundSeen (wish : Bool) (st : Seen) : Type 0 where
  pub nodes : All (Sound wish) st.nodes
  pub queue : All Waits st.queue

data SoundJoint : Joint → Type 0 where
  without : SoundJoint Without
  with : {e : Edge} → IsFraction e → SoundJoint (With e)

-- reading goes on with what is sound, or the text is refused
data Fine (wish : Bool) : Outcome → Type 0 where
  on : {at : ℕ} {st : Seen} → SoundSeen wish st → Fine wish (On at st)
  refused : {r : CdError} → Fine wish (text.Refused r)

fine_onto : {wish : Bool} {o : Outcome} {k : ℕ → Seen → Outcome} → Fine wish o → ((at : ℕ) (st : Seen) → SoundSeen wish st → Fine wish (k at st)) → Fine wish (onto o k)
fine_onto (on {at} {st} h) f = f at st h
fine_onto refused f = refused

queue_sound : {wish : Bool} {x : Joint} (st : Seen) (this : NodeRef) → SoundJoint x → SoundSeen wish st → All Waits (queued x st this)
unfolding queued
queue_sound st this without h = h.queue
queue_sound st this (with f) h = all_append h.queue f

fine_taken : {wish : Bool} {r : node.Read} {x : Joint} (i : ℕ) (st : Seen) → SoundRead wish r → SoundJoint x → SoundSeen wish st → Fine wish (taken r i x st)
unfolding taken
fine_taken i st nodes.refused j h = refused
fine_taken i st (nodes.referred {r = this}) j h = on (record { nodes = h.nodes; queue = queue_sound st this j h })
fine_taken {wish} i st (nodes.added a) j h =
    picked (Fine wish) (leb limit (length st.nodes)) refused (on (record { nodes = all_append h.nodes a; queue = queue_sound st (Absolute (length st.nodes)) j h }))

module _ (wish : Bool) (s : List ℕ) where
  fine_node : {x : Joint} (at : ℕ) (st : Seen) → SoundJoint x → SoundSeen wish st → Fine wish (node_in wish s at x st)
  unfolding node_in
  fine_node at st j h = let i = skip (drop at s) at in fine_taken i st (node_sound wish (drop i s) i) j h

  fine_after : (x : Result (Option (Edge × ℕ)) CdError) (at : ℕ) (st : Seen) → edge_at s at ≡ x → SmallIfAny x → SoundSeen wish st → Fine wish (after_edge wish x s at st)
  unfolding after_edge
  fine_after (Ok None) at st e k h = fine_node at st without h
  fine_after (Ok (Some (d, next))) at st e k h = fine_node next st (with (k, edge_valid s at d next e)) h
  fine_after (Err r) at st e k h = refused

  fine_turns : (n at : ℕ) (st : Seen) → SoundSeen wish st → Fine wish (turns wish n s at st)
  unfolding turns turn
  fine_turns zero at st h = on h
  fine_turns (suc n) at st h =
      picked (Fine wish) (ltb at (length s)) (fine_onto (fine_after (edge_at s at) at st refl (small_edge s at) h) (λ at' st' h'. fine_turns n at' st' h')) (on h)

  text_fine : (at : ℕ) → Fine wish (text_from wish s at)
  unfolding text_from
  text_fine at = fine_onto (fine_node at start without (record { nodes = nil; queue = nil })) (λ at' st' h'. fine_turns (length s) at' st' h')

-- ---- the edges stored

-- if a node was found, it is one of n
abbrev Inside : ℕ → Option ℕ → Type 0
Inside n o = IfSome o (λ k. k < n)

index_inside : (r : NodeRef) (n : ℕ) → Inside n (index_of r n)
unfolding index_of
index_inside (Absolute k) n = tested (Inside n) (ltb k n) (λ h. ltb-true k n h) tt
index_inside (Negative k) n = tested (Inside n) (ltb k n) (λ h. let l : n - 1 - k < n = omega (arith, ltb-true k n h) in l) tt

-- if both were found, the edge is no two and they are of n
data BothInside (e : Edge) (n : ℕ) : Ends → Type 0 where
  dropped : BothInside e n ends.Dropped
  missing : BothInside e n ends.Missing
  both : {a b : ℕ} → is_two e ≡ false → a < n → b < n → BothInside e n (ends.Both a b)

both_inside : {e : Edge} {n : ℕ} (a b : Option ℕ) → is_two e ≡ false → Inside n a → Inside n b → BothInside e n (both_of a b)
unfolding both_of
both_inside None b t h k = missing
both_inside (Some a) None t h k = missing
both_inside (Some a) (Some b) t h k = both t h k

ends_inside : (e : EdgeRef) (n : ℕ) → BothInside e.edge n (ends_of e n)
unfolding ends_of
ends_inside e n = go (is_two e.edge) refl
  where
    go : (t : Bool) → is_two e.edge ≡ t → BothInside e.edge n (pick t ends.Dropped (both_of (index_of e.first n) (index_of e.other n)))
    go true h = dropped
    go false h = both_inside (index_of e.first n) (index_of e.other n) h (index_inside e.first n) (index_inside e.other n)

data SoundJoined (n : ℕ) : Joined → Type 0 where
  edges : {es : List Stored} → All SoundEdge es → Tidy n es → SoundJoined n (Edges es)
  refused : {r : CdError} → SoundJoined n (joining.Refused r)

joined_onto : {n : ℕ} {j : Joined} {f : List Stored → Joined} → SoundJoined n j
    → ((es : List Stored) → All SoundEdge es → Tidy n es → SoundJoined n (f es)) → SoundJoined n (joining.onto j f)
joined_onto (edges {es} h w) f = f es h w
joined_onto refused f = refused

join_one_sound : {n : ℕ} {x : Ends} (e : Edge) (k : ℕ) (es : List Stored) → BothInside e n x → IsFraction e → All SoundEdge es → Tidy n es → SoundJoined n (join_one x e k es)
unfolding join_one
join_one_sound e k es dropped f h w = edges h w
join_one_sound e k es missing f h w = refused
join_one_sound {n} e k es (both {a} {b} t p q) f h w = go (is_joined es a b) refl
  where
    go : (j : Bool) → is_joined es a b ≡ j → SoundJoined n (pick j (joining.Refused (RepeatEdge a b)) (Edges (es ++ (record { first = a; other = b; edge = e } ∷ []))))
    go true o = refused
    go false o = edges (all_append h (record { num_fits = f.0; valid = f.1 })) (more w (record { first_in = p; other_in = q; no_two = t; apart = o }))

join_all_sound : (n : ℕ) (q : List EdgeRef) (k : ℕ) (es : List Stored) → All Waits q → All SoundEdge es → Tidy n es → SoundJoined n (join_all n q k es)
unfolding join_all
join_all_sound n [] k es s h w = edges h w
join_all_sound n (e ∷ q) k es (cons f s) h w = joined_onto (join_one_sound e.edge k es (ends_inside e n) f h w) (λ es' h' w'. join_all_sound n q (k + 1) es' s h' w')

-- ---- an accepted text

data SoundReading (wish : Bool) : Reading → Type 0 where
  accepted : {ns : List Node} {es : List Stored} → All (Sound wish) ns → All SoundEdge es → Tidy (length ns) es → SoundReading wish (Accepted ns es)
  refused : {r : CdError} → SoundReading wish (reading.Refused r)

with_edges_sound : {wish : Bool} {ns : List Node} {j : Joined} → All (Sound wish) ns → SoundJoined (length ns) j → SoundReading wish (with_edges ns j)
unfolding with_edges
with_edges_sound h (edges k w) = accepted h k w
with_edges_sound h refused = refused

joined_sound : {wish : Bool} {o : Outcome} → Fine wish o → SoundReading wish (joined o)
unfolding joined
joined_sound (on {st} h) = with_edges_sound h.nodes (join_all_sound (length st.nodes) st.queue 0 [] h.queue nil tidy.none)
joined_sound refused = refused

typed_sound : (wish : Bool) (s : List ℕ) → SoundReading wish (typed wish s)
unfolding typed
typed_sound wish s = picked (SoundReading wish) (ltb 255 (length s)) refused (picked (SoundReading wish) (ltb (high s 0) (length s)) refused (joined_sound (text_fine wish s 0)))

parts : {wish : Bool} {ns : List Node} {es : List Stored} → SoundReading wish (Accepted ns es) → All (Sound wish) ns × All SoundEdge es × Tidy (length ns) es
parts (accepted h k w) = (h, k, w)

-- every node of an accepted text is sound, and so is every stored edge as typed; and these are tidy
module _ (wish : Bool) (s : List ℕ) (ns : List Node) (es : List Stored) (e : typed wish s ≡ Accepted ns es) where
  pub sound_nodes : All (Sound wish) ns
  sound_nodes = (parts (rw e at (typed_sound wish s))).0

  pub sound_edges : All SoundEdge es
  sound_edges = (parts (rw e at (typed_sound wish s))).1

  pub tidy_edges : Tidy (length ns) es
  tidy_edges = (parts (rw e at (typed_sound wish s))).2
