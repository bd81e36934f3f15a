-- Joining the queue: the edges stored so far stand in their places, and what is joined from here on gives what the whole queue gives.
-- Assumes nothing.
use Prim.Native.Nat.{ℕ, ◌+◌, ◌-◌, ◌≤◌, ◌<◌}
use mathlib.Core.Bool.{Bool, true, false}
use mathlib.Core.List.{List, [], ◌∷◌, ◌++◌}
use mathlib.Core.Path.{◌≡◌, refl, sym, ap, ◌∙◌}
use native.Mathlib.Numerals.{add-one}
use native.Mathlib.Omega.{arith}
use borrow.Author.Tests.{lt-ltb, ltb-true}
use lib.Dec.{ltb}
use lib.ListN.{length, get_or, set, take, drop, drop_of_length-le, length-append}
use lib.Seq.{drop-cons, length-take-le, get_or-take}
use Rattle.cd.specs.Arrays.{triangle}
use Rattle.cd.specs.Diagrams.{Stored, between, limit, place_of}
use Rattle.std.specs.Prelude.{Option, Some, None}
use Rattle.float.specs.Pick.{pick}
use Rattle.cd.specs.Edges.{is_two}
use Rattle.cd.specs.References.{index_of, both_of, ends_of}
use Rattle.cd.specs.declared.NodeRef.{NodeRef}
use Rattle.cd.specs.declared.NodeRef.TheVariants.{Absolute, Negative}
use Rattle.cd.specs.declared.CdError.{CdError}
use Rattle.cd.specs.declared.CdError.TheVariants.{RepeatEdge, MissingNode}
use Rattle.cd.specs.declared.EdgeRef.{EdgeRef}
use Rattle.cd.specs.declared.Ends.{Ends}
use Rattle.cd.specs.declared.Ends.TheVariants.{Dropped, Missing, Both}
use Rattle.cd.specs.declared.Pair.{Pair}
use Rattle.cd.proofs.Stored.{loaded, stored, rank_joined}
use Rattle.parse.specs.Joining.{Edges, Refused, join_one, join_all}

-- ---- the nodes that an edge joins are nodes

index_below : (t : Bool) (i k n j : ℕ) → ltb k n ≡ t → (k < n → i < n) → pick t (Some i) None ≡ Some j → j < n
index_below true i k n j e f q =
    let r : i ≡ j = cc in
    let l = f (ltb-true k n e) in
    omega arith
index_below false i k n j e f q = let z : ◌≡◌ {A = ℕ} 0 1 = cc in omega arith

found_below : (r : NodeRef) (n j : ℕ) → index_of r n ≡ Some j → j < n
unfolding index_of
found_below (Absolute k) n j q = index_below (ltb k n) k k n j refl (λ h. h) q
found_below (Negative k) n j q = index_below (ltb k n) (n - 1 - k) k n j refl (λ h. omega arith) q

both_below : (t : Bool) (p q : Option ℕ) (a b n : ℕ) → ((j : ℕ) → p ≡ Some j → j < n) → ((j : ℕ) → q ≡ Some j → j < n) → pick t Dropped (both_of p q) ≡ Both a b → (a < n) × (b < n)
unfolding both_of
both_below true p q a b n f g h = let z : ◌≡◌ {A = ℕ} 0 1 = cc in omega arith
both_below false None q a b n f g h = let z : ◌≡◌ {A = ℕ} 0 1 = cc in omega arith
both_below false (Some i) None a b n f g h = let z : ◌≡◌ {A = ℕ} 0 1 = cc in omega arith
both_below false (Some i) (Some j) a b n f g h =
    let u : i ≡ a = cc in
    let v : j ≡ b = cc in
    let k = f i refl in
    let l = g j refl in
    (omega arith, omega arith)

pub ends_below : (e : EdgeRef) (n a b : ℕ) → ends_of e n ≡ Both a b → (a < n) × (b < n)
unfolding ends_of
ends_below e n a b h = both_below (is_two e.edge) (index_of e.first n) (index_of e.other n) a b n (found_below e.first n) (found_below e.other n) h

-- ---- the queue

-- the queue q of n nodes, joined up to its place k
pub record Midway (n : ℕ) (q : List EdgeRef) (pairs : List Pair) (edges k : ℕ) : Type 0 where
  pub es : List Stored
  pub places : pairs ≡ triangle (between 1 es) limit
  pub many : edges ≡ length es
  pub going : join_all n (drop k q) k es ≡ join_all n q 0 []

pub drop_next : {A : Type 0} (l : List A) (k : ℕ) (d : A) → k < length l → drop k l ≡ get_or l k d ∷ drop (k + 1) l
drop_next l k d h = rw (add-one, drop-cons l k d)

-- the queue's edge at k, where the queue is the first c places of an array
pub next_waiting : (l : List EdgeRef) (c k : ℕ) (d : EdgeRef) → c ≤ length l → k < c → drop k (take c l) ≡ get_or l k d ∷ drop (k + 1) (take c l)
next_waiting l c k d h i = drop_next (take c l) k d (omega (arith, length-take-le c l h)) ∙ ap (λ (e : EdgeRef). e ∷ drop (k + 1) (take c l)) (get_or-take c l k d i)

module _ (n : ℕ) (q : List EdgeRef) (k : ℕ) (e : EdgeRef) (this : drop k q ≡ e ∷ drop (k + 1) q) (es : List Stored) (x : Ends) (is : x ≡ ends_of e n) where
  on : (es' : List Stored) → join_one x e.edge k es ≡ Edges es' → join_all n (drop (k + 1) q) (k + 1) es' ≡ join_all n (drop k q) k es
  unfolding join_all
  on es' h = rw (this, ← is, h)

  stopped : (r : CdError) → join_one x e.edge k es ≡ Refused r → join_all n (drop k q) k es ≡ Refused r
  unfolding join_all
  stopped r h = rw (this, ← is, h)

module _ {n : ℕ} {q : List EdgeRef} {pairs : List Pair} {edges k : ℕ} (m : Midway n q pairs edges k) where
  pub over : length q ≤ k → join_all n q 0 [] ≡ Edges m.es
  unfolding join_all
  over h = sym m.going ∙ rw (drop_of_length-le q h)

  module _ (e : EdgeRef) (this : drop k q ≡ e ∷ drop (k + 1) q) (x : Ends) (is : x ≡ ends_of e n) where
    pub dropped : x ≡ Dropped → Midway n q pairs edges (k + 1)
    unfolding join_one
    dropped h = record { es = m.es; places = m.places; many = m.many; going = on n q k e this m.es x is m.es (rw h) ∙ m.going }

    pub missing : x ≡ Missing → join_all n q 0 [] ≡ Refused (MissingNode k)
    unfolding join_one
    missing h = sym m.going ∙ stopped n q k e this m.es x is (MissingNode k) (rw h)

    module _ (a b : ℕ) (both : x ≡ Both a b) (few : n ≤ limit) (p : ℕ) (at : p ≡ place_of a b) (o : Pair) where
      ends : (a < n) × (b < n)
      ends = ends_below e n a b (sym is ∙ both)

      rank : (get_or pairs p o).rank ≡ (between 1 m.es a b).rank
      rank = rw (m.places, at) (ap (λ (y : Pair). y.rank) (loaded m.es a b o (omega (arith, ends)) (omega (arith, ends))))

      pub repeated : 0 < (get_or pairs p o).rank → join_all n q 0 [] ≡ Refused (RepeatEdge a b)
      unfolding join_one
      repeated h =
          let l : 0 < (between 1 m.es a b).rank = omega (arith, rank) in
          sym m.going ∙ stopped n q k e this m.es x is (RepeatEdge a b) (rw (both, ← rank_joined 1 m.es a b (omega arith), lt-ltb 0 _ l))

      pub added : (get_or pairs p o).rank ≤ 0 → Midway n q (set pairs p (record { rank = edges + 1; edge = e.edge })) (edges + 1) (k + 1)
      unfolding join_one
      added h =
          let l : (between 1 m.es a b).rank ≡ 0 = omega (arith, rank) in
          let s : Stored = record { first = a; other = b; edge = e.edge } in
          record {
            es = m.es ++ (s ∷ []);
            places = rw (m.places, at, m.many) (stored m.es a b e.edge (omega (arith, ends)) (omega (arith, ends)) l);
            many = omega (arith, m.many, length-append m.es (s ∷ []));
            going = on n q k e this m.es x is (m.es ++ (s ∷ [])) (rw (both, ← rank_joined 1 m.es a b (omega arith), l)) ∙ m.going;
          }
