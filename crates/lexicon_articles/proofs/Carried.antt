-- What a renumbering of one accepted text's diagram onto another's carries: the fraction between any two nodes, which is the same, as both are in lowest terms; whether
-- an edge joins them, since in tidy edges one does exactly where the fraction is not 2; so paths, along which a loop is no step, with them components, their ringed nodes
-- and the names that fit them. It leads back as well. Assumes nothing.
use mathlib.Core.Bool.{Bool, true, false, not, ◌||◌}
use mathlib.Core.List.{List}
use mathlib.Core.Logic.{◌≢◌}
use mathlib.Core.Path.{◌≡◌, refl, sym, ap, ap₂, ◌∙◌, subst}
use Prim.Native.Nat.{ℕ, ◌<◌}
use native.Mathlib.Decide.{ℕ_discrete}
use lib.Dec.{eqb}
use lib.ListN.{length, get_or}
use Rattle.float.specs.Pick.{pick}
use Rattle.cd.specs.Diagrams.{Stored, joins, is_joined}
use Rattle.cd.specs.Edges.{is_two, fraction, edge_of}
use Rattle.cd.specs.Minimal.{is_ringed, Linked, Minimal}
use Rattle.cd.specs.Paths.{Path, here, on}
use Rattle.cd.specs.declared.Node.{Node}
use Rattle.cd.specs.declared.Node.TheVariants.{Unringed, Ringed, Snub}
use Rattle.cd.proofs.Stored.{joined_append}
use Rattle.filing.specs.Diagrams.{Carries}
use Rattle.filing.specs.Fractions.{Fraction, SameFraction}
use Rattle.filing.proofs.Gcd.{lowest_same}
use Rattle.filing.proofs.Numberings.{inverse, inverse_left, inverse_right, inverse_numbering}
use Rattle.group_names.specs.Named.{over1, Named}
use Rattle.group_names.specs.Names.{rank, entry}
use Rattle.group_names.specs.declared.Name.{Name}
use Rattle.lexicon.proofs.Tidy.{Tidy, none, more}
use Rattle.minimal.proofs.Paths.{path_join, path_turned, path_in}
use Rattle.tables.specs.Diagrams.{filed, two, joint, diagram}
use Rattle.tables.specs.Tables.{IsKept}
use Rattle.tables.proofs.Joints.{joint_append}

-- ---- joined exactly where the fraction is not 2

pub joined_fraction : {n : ℕ} {es : List Stored} → Tidy n es → (i j : ℕ) → is_joined es i j ≡ not (is_two (edge_of (joint es i j)))
unfolding is_joined joint is_two
joined_fraction none i j = refl
joined_fraction (more {es} {s} w f) i j =
    rw (joined_append es s i j, joint_append es s i j) (go (is_joined es i j) (joins i j s) (joint es i j) (joined_fraction w i j))
  where
    go : (a b : Bool) (x : Fraction) → a ≡ not (is_two (edge_of x)) → a || b ≡ not (is_two (edge_of (pick a x (pick b (fraction s.edge) two))))
    go true b x h = h
    go false true x h = sym (ap not f.no_two)
    go false false x h = refl

-- ---- carried, both ways

pub record Carried (ns : List Node) (es : List Stored) (ms : List Node) (fs : List Stored) : Type 0 where
  pub size : length ns ≡ length ms
  pub to : ℕ → ℕ
  pub from : ℕ → ℕ
  pub to_in : (i : ℕ) → i < length ns → to i < length ms
  pub from_in : (i : ℕ) → i < length ms → from i < length ns
  pub from_to : (i : ℕ) → i < length ns → from (to i) ≡ i
  pub to_from : (i : ℕ) → i < length ms → to (from i) ≡ i
  pub ringed : (i : ℕ) → i < length ns → is_ringed (get_or ns i Unringed) ≡ is_ringed (get_or ms (to i) Unringed)
  pub fractions : (i j : ℕ) → i < length ns → j < length ns → i ≢ j → joint es i j ≡ joint fs (to i) (to j)
  pub joined : (i j : ℕ) → i < length ns → j < length ns → i ≢ j → is_joined es i j ≡ is_joined fs (to i) (to j)

pub turned : {ns ms : List Node} {es fs : List Stored} → Carried ns es ms fs → Carried ms fs ns es
turned {ns} {ms} {es} {fs} c = record {
  size = sym c.size;
  to = c.from;
  from = c.to;
  to_in = c.from_in;
  from_in = c.to_in;
  from_to = c.to_from;
  to_from = c.from_to;
  ringed = λ i h. ap (λ k. is_ringed (get_or ms k Unringed)) (sym (c.to_from i h)) ∙ sym (c.ringed (c.from i) (c.from_in i h));
  fractions = λ i j h k ne. ap₂ (joint fs) (sym (c.to_from i h)) (sym (c.to_from j k)) ∙ sym (c.fractions (c.from i) (c.from j) (c.from_in i h) (c.from_in j k) (others i j h k ne));
  joined = λ i j h k ne. ap₂ (is_joined fs) (sym (c.to_from i h)) (sym (c.to_from j k)) ∙ sym (c.joined (c.from i) (c.from j) (c.from_in i h) (c.from_in j k) (others i j h k ne));
}
  where
    others : (i j : ℕ) → i < length ms → j < length ms → i ≢ j → c.from i ≢ c.from j
    others i j h k ne e = ne (sym (c.to_from i h) ∙ ap c.to e ∙ c.to_from j k)

ringed_kind : (v : Node) → is_ringed v ≡ eqb (filed v).kind 2
unfolding is_ringed filed
ringed_kind Unringed = refl
ringed_kind (Ringed x) = refl
ringed_kind (Snub x) = refl

-- of two diagrams as accepted texts have them
module _ (ns ms : List Node) (es fs : List Stored) (f : ℕ → ℕ) {N : ℕ} (kept-s : IsKept N (diagram ns es)) (kept-t : IsKept N (diagram ms fs)) (tidy-s : Tidy (length ns) es) (tidy-t : Tidy (length ms) fs)
    (c : Carries (diagram ns es) (diagram ms fs) f) where
  within : (i : ℕ) → i < length ns → f i < length ms
  unfolding diagram
  within i h = rw c.size at (c.numbering.within i h)

  same_fraction : (i j : ℕ) → i < length ns → j < length ns → i ≢ j → joint es i j ≡ joint fs (f i) (f j)
  unfolding diagram
  same_fraction i j h k ne =
      let other : f i ≢ f j = λ e. ne (c.numbering.apart i j h k e) in
      let a = kept-s.is.edges i j h k ne in
      let b = kept-t.is.edges (f i) (f j) (within i h) (within j k) other in
      sym (kept-s.lowest_terms i j h k ne) ∙ (lowest_same (joint es i j) (joint fs (f i) (f j)) a.den_pos b.den_pos).0 (c.edges i j h k ne)
      ∙ kept-t.lowest_terms (f i) (f j) (within i h) (within j k) other

  pub carried : Carried ns es ms fs
  unfolding diagram
  carried = record {
    size = c.size;
    to = f;
    from = inverse (length ns) f;
    to_in = within;
    from_in = λ i h. (inverse_numbering c.numbering).within i (rw (← c.size) at h);
    from_to = inverse_left c.numbering;
    to_from = λ i h. inverse_right c.numbering i (rw (← c.size) at h);
    ringed = λ i h. ringed_kind (get_or ns i Unringed) ∙ ap (λ v. eqb v.kind 2) (c.nodes i h) ∙ sym (ringed_kind (get_or ms (f i) Unringed));
    fractions = same_fraction;
    joined = λ i j h k ne. joined_fraction tidy-s i j ∙ ap (λ x. not (is_two (edge_of x))) (same_fraction i j h k ne) ∙ sym (joined_fraction tidy-t (f i) (f j));
  }

-- ---- paths

module _ {ns ms : List Node} {es fs : List Stored} (c : Carried ns es ms fs) where
  step : (i j : ℕ) {k : ℕ} → Linked (length ns) es i j → Path (Linked (length ms) fs) (c.to j) k → Path (Linked (length ms) fs) (c.to i) k
  step i j {k} e p =
      elim (ℕ_discrete i j) [
        | yes z ↦ subst (λ t. Path (Linked (length ms) fs) t k) (ap c.to (sym z)) p
        | no z ↦ on (record { first = c.to_in i e.first; other = c.to_in j e.other; stored = sym (c.joined i j e.first e.other z) ∙ e.stored }) p
      ]

  pub path_carried : {i j : ℕ} → Path (Linked (length ns) es) i j → Path (Linked (length ms) fs) (c.to i) (c.to j)
  path_carried here = here
  path_carried (on {i} {j} e p) = step i j e (path_carried p)

-- ---- the minimal mark

pub minimal_carried : {ns ms : List Node} {es fs : List Stored} → Carried ns es ms fs → Minimal ns es → Minimal ms fs
minimal_carried {ns} {ms} {es} {fs} c m j h =
    let r = m (c.from j) (c.from_in j h) in
    record {
      at = c.to r.at;
      path = subst (λ k. Path (Linked (length ms) fs) k (c.to r.at)) (c.to_from j h) (path_carried c r.path);
      ring = record { inside = c.to_in r.at r.ring.inside; ringed = sym (c.ringed r.at r.ring.inside) ∙ r.ring.ringed };
    }

-- ---- names

-- a name is that of the component, from whichever of its nodes
pub named_along : {n : ℕ} {es : List Stored} {a b : ℕ} {x : Name} → Path (Linked n es) a b → Named n es a x → Named n es b x
named_along p d = record {
  valid = d.valid;
  places = d.places;
  fits = record {
    inside = λ i l. path_join (path_turned p) (d.fits.inside i l);
    apart = d.fits.apart;
    all = λ v q. d.fits.all v (path_join p q);
    edges = d.fits.edges;
  };
}

-- what leads from a node's image leads from it
pub path_uncarried : {ns ms : List Node} {es fs : List Stored} (c : Carried ns es ms fs) (a v : ℕ) → a < length ns → Path (Linked (length ms) fs) (c.to a) v → Path (Linked (length ns) es) a (c.from v)
unfolding turned
path_uncarried {ns} {es = es} c a v h p = subst (λ k. Path (Linked (length ns) es) k (c.from v)) (c.from_to a h) (path_carried (turned c) p)

pub named_carried : {ns ms : List Node} {es fs : List Stored} (c : Carried ns es ms fs) {a : ℕ} {x : Name} → a < length ns → Named (length ns) es a x → Named (length ms) fs (c.to a) x
named_carried {ns} {ms} {es} {fs} c {a} {x} h d = record {
  valid = d.valid;
  places = λ i. c.to (d.places i);
  fits = record {
    inside = λ i l. path_carried c (d.fits.inside i l);
    apart = λ i j l m e. d.fits.apart i j l m (sym (c.from_to _ (below i l)) ∙ ap c.from e ∙ c.from_to _ (below j m));
    all = λ v q.
        let (i, l, e) = d.fits.all (c.from v) (path_uncarried c a v h q) in
        (i, l, ap c.to e ∙ c.to_from v (path_in (c.to_in a h) q));
    edges = λ i j l m ne.
        subst (λ y. SameFraction y (over1 (entry x i j))) (c.fractions _ _ (below i l) (below j m) (λ e. ne (d.fits.apart i j l m e))) (d.fits.edges i j l m ne);
  };
}
  where
    below : (i : ℕ) → i < rank x → d.places i < length ns
    below i l = path_in h (d.fits.inside i l)
