-- The loop that reads a text, in the terms of its locals: what is read from here on gives what the whole text gives (`Due` before a node, `After` behind
-- one). Each turn reads a byte, so the turns allowed, at first the length of the text, never run out. The code's queue has edges in lowest terms;
-- `typed` is the queue as document 01 has it. Assumes nothing.
use Rattle.std.specs.Prelude.{Option, Some, None, Result, Ok, Err}
use Prim.Native.Nat.{ℕ, zero, suc, ◌+◌, ◌*◌, ◌≤◌, ◌<◌}
use mathlib.Core.Bool.{Bool}
use mathlib.Core.List.{List, [], ◌∷◌, ◌++◌, map, map-append}
use mathlib.Core.Path.{◌≡◌, refl, sym, ap, ◌∙◌}
use native.Mathlib.Numerals.{add-one}
use native.Mathlib.Omega.{arith}
use borrow.Author.Tests.{lt-ltb, le-ltb, le-leb, lt-leb}
use lib.ListN.{length, take, drop, set, length-map, length-set}
use lib.Seq.{length-take-le, take-suc-set}
use Rattle.cd.specs.Arrays.{padded, triangle}
use Rattle.cd.specs.Diagrams.{Stored, between, limit, place, cd_of}
use Rattle.cd.specs.declared.Cd.{Cd}
use Rattle.cd.specs.declared.CdError.{CdError}
use Rattle.cd.specs.declared.CdError.TheVariants.{TooManyNodes}
use Rattle.cd.specs.declared.Edge.{Edge}
use Rattle.cd.specs.declared.EdgeRef.{EdgeRef}
use Rattle.cd.specs.declared.Node.{Node}
use Rattle.cd.specs.declared.Node.TheVariants.{Unringed}
use Rattle.cd.specs.declared.NodeRef.{NodeRef}
use Rattle.cd.specs.declared.NodeRef.TheVariants.{Absolute}
use Rattle.cd.specs.declared.Place.{Place}
use Rattle.cd.proofs.Arrays.{length_padded, set_padded}
use Rattle.scan.specs.Spaces.{skip}
use Rattle.scan.specs.Edges.{edge_at}
use Rattle.scan.specs.Kept.{kept_if_any}
use Rattle.scan.proofs.Places.{edge_next}
use Rattle.scan.proofs.KeptLaws.{kept_none, kept_refused, kept_read}
use Rattle.node.specs.Nodes.{Read, node_at}
use Rattle.parse.specs.Text.{Seen, Outcome, On, Refused, onto, Joint, Without, With, queued, taken, node_in, after_edge, turn, turns, text_from}
use Rattle.node.proofs.Ahead.{read_ahead}
use Rattle.parse.specs.Joining.{join_all}
use Rattle.parse.specs.Joining as joining
use Rattle.parse.specs.Reading.{answer, joined, kept, with_edges}
use Rattle.parse.specs.Reading as gives
use Rattle.parse.specs.declared.Queue.{Queue}
use Rattle.node.specs.declared.NodeRead.TheVariants as node
use Rattle.parse.proofs.KeptEdges.{kept_ref, kept_joint, queued_kept, reading_kept}

-- ---- what the locals stand for

abbrev pub held : List Place → ℕ → List Node
held nodes count = map (λ (p : Place). p.node) (take count nodes)

abbrev pub waits : Queue → List EdgeRef
waits q = take q.count q.at

-- the edge read last, if one was
unfoldable pub joint : Option Edge → Joint
joint None = Without
joint (Some e) = With e

-- how many edges that is
abbrev pub waiting_edges : Option Edge → ℕ
waiting_edges None = 0
waiting_edges (Some e) = 1

-- what was read of the text, its queue as typed
abbrev pub read_of : List Place → ℕ → List EdgeRef → NodeRef → Seen
read_of nodes count typed prev = record { nodes = held nodes count; queue = typed; prev = prev }

-- ---- before a node

-- the edges that wait, and the one read last, are those typed in lowest terms
pub record Due (wish : Bool) (s : List ℕ) (start : ℕ) (nodes : List Place) (count : ℕ) (q : Queue) (at : ℕ) (prev : NodeRef) (e : Option Edge) : Type 0 where
  pub places : nodes ≡ padded (place Unringed) limit (take count nodes)
  pub few : count ≤ limit
  pub slots : length q.at ≡ 128
  pub room : 2 * q.count + waiting_edges e ≤ at
  pub upto : at ≤ length s
  pub typed : List EdgeRef
  pub waiting : waits q ≡ map kept_ref typed
  pub edge : Joint
  pub last : joint e ≡ kept_joint edge
  pub left : ℕ
  pub enough : length s ≤ left + at
  pub going : onto (node_in wish s at edge (read_of nodes count typed prev)) (turns wish left s) ≡ text_from wish s start

pub due_start : (wish : Bool) (s : List ℕ) (start : ℕ) (nodes : List Place) (slots : List EdgeRef) → start ≤ length s → nodes ≡ padded (place Unringed) limit [] → length slots ≡ 128
    → Due wish s start nodes 0 (record { at = slots; count = 0 }) start (Absolute 0) None
unfolding text_from joint
due_start wish s start nodes slots h p l =
    record {
      places = p;
      few = omega arith;
      slots = l;
      room = omega arith;
      upto = h;
      typed = [];
      waiting = refl;
      edge = Without;
      last = refl;
      left = length s;
      enough = omega arith;
      going = refl;
    }

-- ---- a node or a reference was read, and a node was stored

pub record Found {wish : Bool} {s : List ℕ} {start : ℕ} {nodes : List Place} {count : ℕ} {q : Queue} {at : ℕ} {prev : NodeRef} {e : Option Edge} (k : Due wish s start nodes count q at prev e)
    (nodes' : List Place) (count' : ℕ) (this : NodeRef) (next : ℕ) : Type 0 where
  pub places : nodes' ≡ padded (place Unringed) limit (take count' nodes')
  pub few : count' ≤ limit
  pub ahead : at < next
  pub upto : next ≤ length s
  pub left : ℕ
  pub enough : length s < left + next
  pub turned : turns wish left s next (read_of nodes' count' (queued k.edge (read_of nodes count k.typed prev) this) this) ≡ text_from wish s start

-- a list in the first places of an array, and one element more
take_set : {A : Type 0} (l : List A) (c : ℕ) (v : A) → c < length l → take (c + 1) (set l c v) ≡ take c l ++ (v ∷ [])
take_set l c v h = rw add-one (take-suc-set l c v h)

module _ (nodes : List Place) (count : ℕ) (places : nodes ≡ padded (place Unringed) limit (take count nodes)) where
  nodes_long : length nodes ≡ limit
  nodes_long = ap length places ∙ length_padded (place Unringed) limit (take count nodes)

  module _ (few : count ≤ limit) where
    taken_long : length (take count nodes) ≡ count
    taken_long = length-take-le count nodes (omega (arith, nodes_long))

    pub held_long : length (held nodes count) ≡ count
    held_long = length-map (take count nodes) (λ (p : Place). p.node) ∙ taken_long

  module _ (n : Node) (free : count < limit) where
    held_more : held (set nodes count (place n)) (count + 1) ≡ held nodes count ++ (n ∷ [])
    held_more = ap (map (λ (p : Place). p.node)) (take_set nodes count (place n) (omega (arith, nodes_long))) ∙ map-append (λ (p : Place). p.node) (take count nodes) (place n ∷ [])

    places_more : set nodes count (place n) ≡ padded (place Unringed) limit (take (count + 1) (set nodes count (place n)))
    places_more =
        let l : length (take count nodes) ≡ count = taken_long (omega arith) in
        ap (λ (x : List Place). set x count (place n)) places
        ∙ ap (λ (c : ℕ). set (padded (place Unringed) limit (take count nodes)) c (place n)) (sym l)
        ∙ set_padded (place Unringed) (place n) limit (take count nodes) (omega arith)
        ∙ ap (padded (place Unringed) limit) (sym (take_set nodes count (place n) (omega (arith, nodes_long))))

node_is : (wish : Bool) (s : List ℕ) (at i : ℕ) (j : Joint) (st : Seen) (x : Read) → i ≡ skip (drop at s) at → x ≡ node_at wish (drop i s) i → node_in wish s at j st ≡ taken x i j st
unfolding node_in
node_is wish s at i j st x h k = rw (← h, ← k)

module _ {wish : Bool} {s : List ℕ} {start : ℕ} {nodes : List Place} {count : ℕ} {q : Queue} {at : ℕ} {prev : NodeRef} {e : Option Edge} (k : Due wish s start nodes count q at prev e)
    (i : ℕ) (x : Read) (skipped : i ≡ skip (drop at s) at) (after : at ≤ i) (inside : i ≤ length s) (read : x ≡ node_at wish (drop i s) i) where
  abbrev st : Seen
  st = read_of nodes count k.typed prev

  reading : onto (taken x i k.edge st) (turns wish k.left s) ≡ text_from wish s start
  reading = rw (node_is wish s at i k.edge st x skipped read) at k.going

  pub node_refused : (r : CdError) → x ≡ Err r → text_from wish s start ≡ Refused r
  unfolding taken
  node_refused r h = sym (rw h at reading)

  pub node_tenth : (n : Node) (next : ℕ) → x ≡ Ok (node.Added n, next) → limit ≤ count → text_from wish s start ≡ Refused (TooManyNodes i)
  unfolding taken
  node_tenth n next h f = sym (rw (h, held_long nodes count k.places k.few, le-leb limit count f) at reading)

  pub found_reference : (this : NodeRef) (next : ℕ) → x ≡ Ok (node.Referred this, next) → Found k nodes count this next
  unfolding taken
  found_reference this next h =
      let a = read_ahead wish s i (node.Referred this) next inside (sym read ∙ h) in
      record { places = k.places; few = k.few; ahead = omega (arith, a); upto = a.1; left = k.left; enough = omega (arith, a, k.enough); turned = rw h at reading }

  pub found_node : (n : Node) (next : ℕ) → x ≡ Ok (node.Added n, next) → count < limit → Found k (set nodes count (place n)) (count + 1) (Absolute count) next
  unfolding taken
  found_node n next h f =
      let a = read_ahead wish s i (node.Added n) next inside (sym read ∙ h) in
      record {
        places = places_more nodes count k.places n f;
        few = omega arith;
        ahead = omega (arith, a);
        upto = a.1;
        left = k.left;
        enough = omega (arith, a, k.enough);
        turned = rw (held_more nodes count k.places n f) (rw (h, held_long nodes count k.places k.few, lt-leb limit count f) at reading);
      }

-- ---- behind a node: the edge that was read before it, if there was one, waits

pub record After (wish : Bool) (s : List ℕ) (start at : ℕ) (nodes : List Place) (count : ℕ) (q : Queue) (prev : NodeRef) (next : ℕ) : Type 0 where
  pub places : nodes ≡ padded (place Unringed) limit (take count nodes)
  pub few : count ≤ limit
  pub slots : length q.at ≡ 128
  pub room : 2 * q.count ≤ next
  pub ahead : at < next
  pub upto : next ≤ length s
  pub typed : List EdgeRef
  pub waiting : waits q ≡ map kept_ref typed
  pub left : ℕ
  pub enough : length s < left + next
  pub turned : turns wish left s next (read_of nodes count typed prev) ≡ text_from wish s start

module _ {wish : Bool} {s : List ℕ} {start : ℕ} {nodes : List Place} {count : ℕ} {q : Queue} {at : ℕ} {prev : NodeRef} {e : Option Edge} (k : Due wish s start nodes count q at prev e)
    {nodes' : List Place} {count' : ℕ} {this : NodeRef} {next : ℕ} (f : Found k nodes' count' this next) where
  -- the queue with the edge read before this node, as typed and as it waits
  abbrev longer : List EdgeRef
  longer = queued k.edge (read_of nodes count k.typed prev) this

  longer_kept : queued (joint e) (read_of nodes count (waits q) prev) this ≡ map kept_ref longer
  longer_kept =
      ap (λ (w : List EdgeRef). queued (joint e) (read_of nodes count w prev) this) k.waiting
      ∙ ap (λ (j : Joint). queued j (read_of nodes count (map kept_ref k.typed) prev) this) k.last
      ∙ sym (queued_kept k.edge (read_of nodes count k.typed prev) this)

  pub edge_waits : (x : Edge) → e ≡ Some x → q.count < 128 → After wish s start at nodes' count' (record { at = set q.at q.count (record { first = prev; other = this; edge = x }); count = q.count + 1 }) this next
  unfolding joint queued
  edge_waits x h b =
      let w : EdgeRef = record { first = prev; other = this; edge = x } in
      let room : 2 * q.count + 1 ≤ at = rw h at k.room in
      record {
        places = f.places;
        few = f.few;
        slots = length-set q.at q.count w ∙ k.slots;
        room = omega (arith, room, f.ahead);
        ahead = f.ahead;
        upto = f.upto;
        typed = longer;
        waiting = take_set q.at q.count w (omega (arith, k.slots)) ∙ rw h at longer_kept;
        left = f.left;
        enough = f.enough;
        turned = f.turned;
      }

  pub none_waits : e ≡ None → After wish s start at nodes' count' q this next
  unfolding joint queued
  none_waits h =
      record {
        places = f.places;
        few = f.few;
        slots = k.slots;
        room = omega (arith, k.room, f.ahead);
        ahead = f.ahead;
        upto = f.upto;
        typed = longer;
        waiting = rw h at longer_kept;
        left = f.left;
        enough = f.enough;
        turned = f.turned;
      }

-- ---- the end, or another turn

over : (wish : Bool) (n : ℕ) (s : List ℕ) (at : ℕ) (st : Seen) → length s ≤ at → turns wish n s at st ≡ On at st
unfolding turns
over wish zero s at st h = refl
over wish (suc n) s at st h = rw (le-ltb at (length s) h)

-- a turn is left while bytes remain
pub record More (wish : Bool) (n : ℕ) (s : List ℕ) (at : ℕ) (st : Seen) : Type 0 where
  pub less : ℕ
  pub one : n ≡ suc less
  pub is : turns wish n s at st ≡ onto (turn wish s at st) (turns wish less s)

more : (wish : Bool) (n : ℕ) (s : List ℕ) (at : ℕ) (st : Seen) → at < length s → length s < n + at → More wish n s at st
unfolding turns
more wish zero s at st h l = let z : ⊥ = omega arith in absurd z
more wish (suc n) s at st h l = record { less = n; one = refl; is = rw (lt-ltb at (length s) h) }

module _ {wish : Bool} {s : List ℕ} {start at : ℕ} {nodes : List Place} {count : ℕ} {q : Queue} {prev : NodeRef} {next : ℕ} (a : After wish s start at nodes count q prev next) where
  abbrev read_so_far : Seen
  read_so_far = read_of nodes count a.typed prev

  pub whole : length s ≤ next → text_from wish s start ≡ On next read_so_far
  whole h = sym a.turned ∙ over wish a.left s next read_so_far h

  m : next < length s → More wish a.left s next read_so_far
  m inside = more wish a.left s next read_so_far inside a.enough

  module _ (inside : next < length s) (x : Result (Option (Edge × ℕ)) CdError) (read : x ≡ kept_if_any (edge_at s next)) where
    turning : (y : Result (Option (Edge × ℕ)) CdError) → edge_at s next ≡ y → onto (after_edge wish y s next read_so_far) (turns wish (m inside).less s) ≡ text_from wish s start
    unfolding turn
    turning y h = ap (λ (z : Result (Option (Edge × ℕ)) CdError). onto (after_edge wish z s next read_so_far) (turns wish (m inside).less s)) (sym h) ∙ sym (m inside).is ∙ a.turned

    pub edge_refused : (r : CdError) → x ≡ Err r → text_from wish s start ≡ Refused r
    unfolding after_edge
    edge_refused r h = sym (turning (Err r) (kept_refused _ r (sym read ∙ h)))

    pub no_edge : x ≡ Ok None → Due wish s start nodes count q next prev None
    unfolding after_edge joint
    no_edge h =
        record {
          places = a.places;
          few = a.few;
          slots = a.slots;
          room = omega (arith, a.room);
          upto = a.upto;
          typed = a.typed;
          waiting = a.waiting;
          edge = Without;
          last = refl;
          left = (m inside).less;
          enough = omega (arith, (m inside).one, a.enough);
          going = turning (Ok None) (kept_none _ (sym read ∙ h));
        }

    pub an_edge : (e : Edge) (to : ℕ) → x ≡ Ok (Some (e, to)) → Due wish s start nodes count q to prev (Some e) × (next < to)
    unfolding after_edge joint
    an_edge e to h =
        let t = kept_read _ e to (sym read ∙ h) in
        let b = edge_next s next t.edge to a.upto t.read in (
          record {
            places = a.places;
            few = a.few;
            slots = a.slots;
            room = omega (arith, a.room, b);
            upto = b.1;
            typed = a.typed;
            waiting = a.waiting;
            edge = With t.edge;
            last = ap With t.reduces;
            left = (m inside).less;
            enough = omega (arith, (m inside).one, a.enough, b);
            going = turning (Ok (Some (t.edge, to))) t.read;
          },
          b.0,
        )

-- ---- the answer

same_places : (l : List Place) → map place (map (λ (p : Place). p.node) l) ≡ l
same_places [] = refl
same_places (p ∷ l) = ap (λ (m : List Place). p ∷ m) (same_places l)

-- the text is read: the queue joined gives the answer
pub record Ended (wish : Bool) (s : List ℕ) (start : ℕ) (nodes : List Place) (count : ℕ) (q : Queue) : Type 0 where
  pub places : nodes ≡ padded (place Unringed) limit (take count nodes)
  pub few : count ≤ limit
  pub slots : length q.at ≡ 128
  pub fits : q.count ≤ 128
  pub gives : kept (joined (text_from wish s start)) ≡ with_edges (held nodes count) (join_all count (waits q) 0 [])

pub ended : {wish : Bool} {s : List ℕ} {start at : ℕ} {nodes : List Place} {count : ℕ} {q : Queue} {prev : NodeRef} {next : ℕ} → After wish s start at nodes count q prev next
    → length s ≤ 255 → length s ≤ next → Ended wish s start nodes count q
unfolding joined
ended {nodes = nodes} {count = count} {q = q} a short h =
    record {
      places = a.places;
      few = a.few;
      slots = a.slots;
      fits = omega (arith, a.room, a.upto);
      gives =
          ap (λ (o : Outcome). kept (joined o)) (whole a h)
          ∙ reading_kept (held nodes count) (length (held nodes count)) a.typed
          ∙ rw (a.waiting, held_long nodes count a.places a.few);
    }

module _ {wish : Bool} {s : List ℕ} {start : ℕ} {nodes : List Place} {count : ℕ} {q : Queue} (e : Ended wish s start nodes count q) where
  pub join_refused : (r : CdError) → join_all count (waits q) 0 [] ≡ joining.Refused r → answer (gives.Refused r) ≡ answer (kept (joined (text_from wish s start)))
  unfolding with_edges
  join_refused r h = ap answer (sym (e.gives ∙ ap (with_edges (held nodes count)) h))

  -- nodes in their places, and the edges stored, are the diagram
  pub join_accepted : (es : List Stored) → join_all count (waits q) 0 [] ≡ joining.Edges es
      → ◌≡◌ {A = Result Cd CdError} (Ok (record { nodes = nodes; count = count; pairs = triangle (between 1 es) limit; edges = length es })) (answer (kept (joined (text_from wish s start))))
  unfolding with_edges answer cd_of
  join_accepted es h =
      let l : map place (held nodes count) ≡ take count nodes = same_places (take count nodes) in
      let g : kept (joined (text_from wish s start)) ≡ gives.Accepted (held nodes count) es = e.gives ∙ ap (with_edges (held nodes count)) h in
      let c = held_long nodes count e.places e.few in
      ap (λ (x : List Place). Ok (record { nodes = x; count = count; pairs = triangle (between 1 es) limit; edges = length es }))
      (e.places ∙ ap (padded (place Unringed) limit) (sym l))
      ∙ ap (λ (n : ℕ). Ok (record { nodes = padded (place Unringed) limit (map place (held nodes count)); count = n; pairs = triangle (between 1 es) limit; edges = length es }))
      (sym c)
      ∙ ap answer (sym g)
