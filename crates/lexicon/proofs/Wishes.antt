-- Document 02, K6: "Reading should turn infinite lengths down by default." Without the wish a text is read as with it, or is refused with 23 and the last byte of an
-- infinite literal; and it is accepted exactly if it is accepted with the wish and none of its lengths is infinite, as the same diagram. Only a literal's node asks
-- for the wish. By induction on the turns: what is refused with 23 has, read with the wish, an infinite length, which stays among the nodes. Assumes nothing.
use Rattle.std.specs.Prelude.{Option, Some, None, Result, Ok, Err}
use Prim.Native.Nat.{ℕ, zero, suc, ◌+◌, ◌-◌}
use Prim.Native.Char.{code}
use mathlib.Core.Bool.{Bool, true, false, ◌&&◌, true≢false}
use mathlib.Core.List.{List, [], ◌∷◌, ◌++◌}
use mathlib.Core.Logic.{◌↔◌, ◌⊎◌, inl, inr}
use mathlib.Core.Path.{◌≡◌, refl, sym, ap, ◌∙◌, subst}
use native.Mathlib.Omega.{arith}
use borrow.Author.Tests.{ltb-true, ltb-false, eqb-true}
use lib.Dec.{ltb, leb}
use lib.Ieee.{Float}
use lib.ListN.{length, get_or, take, drop, drop_of_length-le}
use Rattle.float.specs.Pick.{pick}
use Rattle.cd.specs.Diagrams.{Stored, limit}
use Rattle.cd.specs.declared.CdError.{CdError}
use Rattle.cd.specs.declared.CdError.TheVariants.{InfiniteLength}
use Rattle.cd.specs.declared.Edge.{Edge}
use Rattle.cd.specs.declared.Node.{Node}
use Rattle.scan.specs.Ascii.{ascii}
use Rattle.scan.specs.Bytes.{is}
use Rattle.scan.specs.Edges.{edge_at}
use Rattle.scan.specs.Spaces.{skip}
use Rattle.scan.proofs.Rest.{drop_at}
use Rattle.length.specs.Literals.{literal_of}
use Rattle.length.specs.declared.Length.{Length}
use Rattle.length.specs.declared.Length.TheVariants.{Infinite}
use Rattle.node.specs.Nodes.{Read, closing, last_byte, length_node, length_at, node_at}
use Rattle.node.specs.declared.NodeRead.TheVariants as node
use Rattle.parse.specs.Text.{Seen, start, Outcome, On, onto, Joint, Without, With, taken, node_in, after_edge, turn, turns, text_from}
use Rattle.parse.specs.Text as text
use Rattle.parse.specs.Joining.{Joined, join_all}
use Rattle.parse.specs.Joining as joining
use Rattle.parse.specs.Reading.{Reading, Accepted, with_edges, joined, high, kept, read}
use Rattle.parse.specs.Reading as reading
use Rattle.parse.proofs.KeptEdges.{as_typed}
use Rattle.lexicon.specs.All.{All, nil, cons}
use Rattle.lexicon.specs.Lengths.{is_finite, all_finite, InfiniteLiteral}
use Rattle.lexicon.proofs.OneAnswer.{not_both, one_diagram}
use Rattle.lexicon.proofs.SoundNodes.{SoundLength, value, infinite, no_number, not_a_number, range, literal_sound, Sound, unringed, ringed, snub, picked}
use Rattle.lexicon.proofs.Sound.{sound_nodes}

-- ---- finite lengths

and_false : (t : Bool) {b c : Bool} → (b ≡ false → c ≡ false) → (t && b) ≡ false → (t && c) ≡ false
and_false true f h = f h
and_false false f h = refl

-- an infinite length stays among the nodes as one more is read, and may be that one's
stays : (ns : List Node) (n : Node) → all_finite ns ≡ false → all_finite (ns ++ (n ∷ [])) ≡ false
stays [] n h = absurd (true≢false h)
stays (m ∷ ns) n h = and_false (is_finite m) (stays ns n) h

comes : (ns : List Node) (n : Node) → is_finite n ≡ false → all_finite (ns ++ (n ∷ [])) ≡ false
comes [] n h = rw h
comes (m ∷ ns) n h = and_false (is_finite m) {b = false} (λ e. comes ns n h) (and_false_right (is_finite m))
  where
    and_false_right : (t : Bool) → (t && false) ≡ false
    and_false_right true = refl
    and_false_right false = refl

-- ---- what has an infinite length, unless it is refused

data InfiniteNode : Read → Type 0 where
  added : {n : Node} {next : ℕ} → is_finite n ≡ false → InfiniteNode (Ok (node.Added n, next))

data InfiniteSeen : Outcome → Type 0 where
  on : {at : ℕ} {st : Seen} → all_finite st.nodes ≡ false → InfiniteSeen (On at st)
  refused : {r : CdError} → InfiniteSeen (text.Refused r)

data InfiniteReading : Reading → Type 0 where
  accepted : {ns : List Node} {es : List Stored} → all_finite ns ≡ false → InfiniteReading (Accepted ns es)
  refused : {r : CdError} → InfiniteReading (reading.Refused r)

-- of the text s, what is read without the wish, x, and with it, y, are the same; or x is refused with 23, and y is infinite
data Alike (s : List ℕ) {A : Type 0} (refuse : CdError → A) (IsInfinite : A → Type 0) (x y : A) : Type 0 where
  same : x ≡ y → Alike s refuse IsInfinite x y
  turned_down : (pos : ℕ) → x ≡ refuse (InfiniteLength pos) → InfiniteLiteral s pos → IsInfinite y → Alike s refuse IsInfinite x y

alike_tested : {s : List ℕ} {A : Type 0} {r : CdError → A} {I : A → Type 0} {x y x' y' : A} (t : Bool) → (t ≡ true → Alike s r I x x') → Alike s r I y y' → Alike s r I (pick t x y) (pick t x' y')
alike_tested true f g = f refl
alike_tested false f g = g

-- ---- a node

empty_literal : (v : Float) → literal_of [] ≡ Infinite v → ⊥
unfolding literal_of ascii
empty_literal v h = let z : ◌≡◌ {A = ℕ} 0 1 = cc in omega arith

module _ (s : List ℕ) where
  abbrev AlikeNodes : Read → Read → Type 0
  AlikeNodes = Alike s Err InfiniteNode

  -- a literal from behind i to e, the place of the next `)`
  there : (i e : ℕ) (v : Float) → get_or s i 0 ≡ code "(" → closing (drop (i + 1) s) (i + 1) ≡ e → literal_of (take (e - (i + 1)) (drop (i + 1) s)) ≡ Infinite v → InfiniteLiteral s (last_byte (i + 1) e)
  unfolding last_byte
  there i e v b c l = of (ltb (i + 1) e) refl
    where
      of : (t : Bool) → ltb (i + 1) e ≡ t → InfiniteLiteral s (pick t (e - 1) e)
      of true q =
          let h = ltb-true (i + 1) e q in
          let n : e - (i + 1) ≡ e - 1 - i = omega arith in
          let m : e ≡ e - 1 + 1 = omega arith in
          record { at = i; value = v; opened = b; literal = subst (λ k. literal_of (take k (drop (i + 1) s)) ≡ Infinite v) n l; closed = c ∙ m }
      of false q =
          let h = ltb-false (i + 1) e q in
          let n : e - (i + 1) ≡ 0 = omega arith in
          absurd (empty_literal v (subst (λ k. literal_of (take k (drop (i + 1) s)) ≡ Infinite v) n l))

  length_node_alike : {l : Length} (last next : ℕ) → SoundLength true l → ((v : Float) → l ≡ Infinite v → InfiniteLiteral s last) → AlikeNodes (length_node false l last next) (length_node true l last next)
  unfolding length_node
  length_node_alike last next (value h) f = same refl
  length_node_alike last next (infinite {v} h i) f = turned_down last refl (f v refl) (added i)
  length_node_alike last next no_number f = same refl
  length_node_alike last next not_a_number f = same refl
  length_node_alike last next range f = same refl

  length_alike : (i : ℕ) → get_or s i 0 ≡ code "(" → AlikeNodes (length_at false (drop (i + 1) s) (i + 1)) (length_at true (drop (i + 1) s) (i + 1))
  unfolding length_at
  length_alike i b =
      let bs = drop (i + 1) s in
      let e = closing bs (i + 1) in
      alike_tested (ltb e (i + 1 + length bs))
      (λ q. length_node_alike (last_byte (i + 1) e) (e + 1) (literal_sound true (take (e - (i + 1)) bs)) (λ v l. there i e v b refl l))
      (same refl)

  node_alike : (i : ℕ) → AlikeNodes (node_at false (drop i s) i) (node_at true (drop i s) i)
  unfolding node_at
  node_alike i = of (ltb i (length s)) refl
    where
      of : (t : Bool) → ltb i (length s) ≡ t → AlikeNodes (node_at false (drop i s) i) (node_at true (drop i s) i)
      of true q = rw (drop_at s i (ltb-true i (length s) q)) (alike_tested (is "(" (get_or s i 0)) (λ p. length_alike i (eqb-true _ _ p)) (same refl))
      of false q = rw (drop_of_length-le s (ltb-false i (length s) q)) (same refl)

-- ---- the text

abbrev AlikeTexts : List ℕ → Outcome → Outcome → Type 0
AlikeTexts s = Alike s text.Refused InfiniteSeen

taken_infinite : {x : Read} (i : ℕ) (j : Joint) (st : Seen) → InfiniteNode x → InfiniteSeen (taken x i j st)
unfolding taken
taken_infinite i j st (added {n} h) = picked InfiniteSeen (leb limit (length st.nodes)) refused (on (comes st.nodes n h))

taken_stays : (x : Read) (i : ℕ) (j : Joint) (st : Seen) → all_finite st.nodes ≡ false → InfiniteSeen (taken x i j st)
unfolding taken
taken_stays (Err r) i j st h = refused
taken_stays (Ok (node.Referred this, next)) i j st h = on h
taken_stays (Ok (node.Added n, next)) i j st h = picked InfiniteSeen (leb limit (length st.nodes)) refused (on (stays st.nodes n h))

taken_alike : {s : List ℕ} {x y : Read} (i : ℕ) (j : Joint) (st : Seen) → AlikeNodes s x y → AlikeTexts s (taken x i j st) (taken y i j st)
unfolding taken
taken_alike i j st (same e) = same (ap (λ z. taken z i j st) e)
taken_alike i j st (turned_down p e l f) = turned_down p (ap (λ z. taken z i j st) e) l (taken_infinite i j st f)

onto_infinite : {o : Outcome} {k : ℕ → Seen → Outcome} → InfiniteSeen o → ((at : ℕ) (st : Seen) → all_finite st.nodes ≡ false → InfiniteSeen (k at st)) → InfiniteSeen (onto o k)
onto_infinite (on {at} {st} h) f = f at st h
onto_infinite refused f = refused

onto_alike : {s : List ℕ} (o : Outcome) {o' : Outcome} {k k' : ℕ → Seen → Outcome} → AlikeTexts s o o' → ((at : ℕ) (st : Seen) → AlikeTexts s (k at st) (k' at st))
    → ((at : ℕ) (st : Seen) → all_finite st.nodes ≡ false → InfiniteSeen (k' at st)) → AlikeTexts s (onto o k) (onto o' k')
onto_alike (On at st) (same e) f g = rw (← e) (f at st)
onto_alike (text.Refused r) (same e) f g = rw (← e) (same refl)
onto_alike o {k = k} (turned_down p e l i) f g = turned_down p (ap (λ z. onto z k) e) l (onto_infinite i g)

module _ (s : List ℕ) where
  node_in_alike : (at : ℕ) (j : Joint) (st : Seen) → AlikeTexts s (node_in false s at j st) (node_in true s at j st)
  unfolding node_in
  node_in_alike at j st = let i = skip (drop at s) at in taken_alike i j st (node_alike s i)

  node_in_stays : (at : ℕ) (j : Joint) (st : Seen) → all_finite st.nodes ≡ false → InfiniteSeen (node_in true s at j st)
  unfolding node_in
  node_in_stays at j st h = let i = skip (drop at s) at in taken_stays (node_at true (drop i s) i) i j st h

  after_alike : (x : Result (Option (Edge × ℕ)) CdError) (at : ℕ) (st : Seen) → AlikeTexts s (after_edge false x s at st) (after_edge true x s at st)
  unfolding after_edge
  after_alike (Ok None) at st = node_in_alike at Without st
  after_alike (Ok (Some (e, next))) at st = node_in_alike next (With e) st
  after_alike (Err r) at st = same refl

  after_stays : (x : Result (Option (Edge × ℕ)) CdError) (at : ℕ) (st : Seen) → all_finite st.nodes ≡ false → InfiniteSeen (after_edge true x s at st)
  unfolding after_edge
  after_stays (Ok None) at st h = node_in_stays at Without st h
  after_stays (Ok (Some (e, next))) at st h = node_in_stays next (With e) st h
  after_stays (Err r) at st h = refused

  turns_stay : (n at : ℕ) (st : Seen) → all_finite st.nodes ≡ false → InfiniteSeen (turns true n s at st)
  unfolding turns turn
  turns_stay zero at st h = on h
  turns_stay (suc n) at st h =
      picked InfiniteSeen (ltb at (length s)) (onto_infinite (after_stays (edge_at s at) at st h) (λ at' st' h'. turns_stay n at' st' h')) (on h)

  turns_alike : (n at : ℕ) (st : Seen) → AlikeTexts s (turns false n s at st) (turns true n s at st)
  unfolding turns turn
  turns_alike zero at st = same refl
  turns_alike (suc n) at st =
      alike_tested (ltb at (length s))
      (λ q. onto_alike (after_edge false (edge_at s at) s at st) (after_alike (edge_at s at) at st) (λ at' st'. turns_alike n at' st') (turns_stay n))
      (same refl)

  text_alike : (at : ℕ) → AlikeTexts s (text_from false s at) (text_from true s at)
  unfolding text_from
  text_alike at = onto_alike (node_in false s at Without start) (node_in_alike at Without start) (λ at' st'. turns_alike (length s) at' st') (turns_stay (length s))

-- ---- the reading

abbrev AlikeReadings : List ℕ → Reading → Reading → Type 0
AlikeReadings s = Alike s reading.Refused InfiniteReading

with_edges_infinite : (ns : List Node) (j : Joined) → all_finite ns ≡ false → InfiniteReading (with_edges ns j)
unfolding with_edges
with_edges_infinite ns (joining.Edges es) h = accepted h
with_edges_infinite ns (joining.Refused r) h = refused

joined_infinite : {o : Outcome} → InfiniteSeen o → InfiniteReading (joined o)
unfolding joined
joined_infinite (on {st} h) = with_edges_infinite st.nodes (join_all (length st.nodes) st.queue 0 []) h
joined_infinite refused = refused

joined_alike : {s : List ℕ} {o o' : Outcome} → AlikeTexts s o o' → AlikeReadings s (joined o) (joined o')
unfolding joined
joined_alike (same e) = same (ap joined e)
joined_alike (turned_down p e l i) = turned_down p (ap joined e) l (joined_infinite i)

kept_infinite : {x : Reading} → InfiniteReading x → InfiniteReading (kept x)
unfolding kept
kept_infinite (accepted h) = accepted h
kept_infinite refused = refused

kept_alike : {s : List ℕ} {x y : Reading} → AlikeReadings s x y → AlikeReadings s (kept x) (kept y)
unfolding kept
kept_alike (same e) = same (ap kept e)
kept_alike (turned_down p e l i) = turned_down p (ap kept e) l (kept_infinite i)

readings_alike : (s : List ℕ) → AlikeReadings s (read false s) (read true s)
unfolding read
readings_alike s = kept_alike (alike_tested (ltb 255 (length s)) (λ q. same refl) (alike_tested (ltb (high s 0) (length s)) (λ q. same refl) (joined_alike (text_alike s 0))))

-- WITHOUT THE WISH A TEXT IS READ AS WITH IT, OR REFUSED WITH 23 AND THE LAST BYTE OF AN INFINITE LITERAL
pub read_alike : (s : List ℕ) → (read false s ≡ read true s) ⊎ ((pos : ℕ) × (read false s ≡ reading.Refused (InfiniteLength pos)) × InfiniteLiteral s pos)
read_alike s = of (readings_alike s)
  where
    of : AlikeReadings s (read false s) (read true s) → (read false s ≡ read true s) ⊎ ((pos : ℕ) × (read false s ≡ reading.Refused (InfiniteLength pos)) × InfiniteLiteral s pos)
    of (same e) = inl e
    of (turned_down p e l i) = inr (p, e, l)

-- ---- accepted texts

sound_finite : {n : Node} → Sound false n → is_finite n ≡ true
sound_finite unringed = refl
sound_finite (ringed f) = f.unwished refl
sound_finite (snub f) = f.unwished refl

finite_nodes : {ns : List Node} → All (Sound false) ns → all_finite ns ≡ true
finite_nodes nil = refl
finite_nodes (cons h hs) = rw (sound_finite h) (finite_nodes hs)

module _ (s : List ℕ) (ns : List Node) (es : List Stored) where
  with_the_wish : read false s ≡ Accepted ns es → read true s ≡ Accepted ns es
  with_the_wish h = of (readings_alike s)
    where
      of : AlikeReadings s (read false s) (read true s) → read true s ≡ Accepted ns es
      of (same e) = sym e ∙ h
      of (turned_down p e l i) = absurd (not_both e h)

  unwished_finite : read false s ≡ Accepted ns es → all_finite ns ≡ true
  unwished_finite h = let t = as_typed false s ns es h in finite_nodes (sound_nodes false s ns t.edges t.read)

  without_the_wish : read true s ≡ Accepted ns es → all_finite ns ≡ true → read false s ≡ Accepted ns es
  without_the_wish h f = of (readings_alike s)
    where
      apart : (x : Reading) → x ≡ Accepted ns es → InfiniteReading x → ⊥
      apart x q (accepted k) = true≢false (sym f ∙ ap all_finite (sym (one_diagram refl q).0) ∙ k)
      apart x q refused = not_both refl q

      of : AlikeReadings s (read false s) (read true s) → read false s ≡ Accepted ns es
      of (same e) = e ∙ h
      of (turned_down p e l i) = absurd (apart (read true s) h i)

  -- WITHOUT THE WISH A TEXT IS ACCEPTED EXACTLY IF IT IS ACCEPTED WITH THE WISH, AS THE SAME DIAGRAM, AND NO LENGTH IS INFINITE
  pub accepted_unwished : (read false s ≡ Accepted ns es) ↔ ((read true s ≡ Accepted ns es) × (all_finite ns ≡ true))
  accepted_unwished = (λ h. (with_the_wish h, unwished_finite h), λ h. without_the_wish h.0 h.1)
