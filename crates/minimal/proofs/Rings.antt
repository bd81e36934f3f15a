-- A path leads from each node to the lowest of its component, whose label is its own; so a diagram is minimal exactly when each label that is its own has a
-- ringed node. Assumes nothing.
use Prim.Native.Nat.{ℕ, ◌≤◌, ◌<◌}
use mathlib.Core.Bool.{Bool, true, false, true≢false, false≢true}
use mathlib.Core.List.{List}
use mathlib.Core.Path.{◌≡◌, refl, sym, ap, ◌∙◌}
use native.Mathlib.Omega.{arith}
use lib.ListN.{length, get_or}
use Rattle.cd.specs.Diagrams.{Stored, limit, place, cd_of}
use Rattle.cd.specs.Minimal.{is_ringed, Linked, Minimal, Decides}
use Rattle.cd.specs.Paths.{Labelled}
use Rattle.cd.specs.declared.Cd.{Cd}
use Rattle.cd.specs.declared.Node.{Node}
use Rattle.cd.specs.declared.Node.TheVariants.{Unringed}
use Rattle.cd.specs.declared.Place.{Place}
use Rattle.minimal.proofs.Paths.{path_in}
use Rattle.cd.proofs.Stored.{count_held, node_held}

-- whether the node in place i is ringed
abbrev pub ringed_in : List Place → ℕ → Bool
ringed_in ps i = is_ringed (get_or ps i (place Unringed)).node

-- of n nodes, one whose label is k is ringed
pub record RingIn (n : ℕ) (f : ℕ → ℕ) (ringed : ℕ → Bool) (k : ℕ) : Type 0 where
  pub at : ℕ
  pub inside : at < n
  pub label : f at ≡ k
  pub ring : ringed at ≡ true

module _ (cd : Cd) (ns : List Node) (es : List Stored) (held : cd ≡ cd_of ns es) (few : cd.count ≤ limit) (f : ℕ → ℕ) (of : Labelled (Linked (length ns) es) (length ns) f) where
  counted : cd.count ≡ length ns
  counted = count_held cd ns es held

  same_ring : (i : ℕ) → i < length ns → ringed_in cd.nodes i ≡ is_ringed (get_or ns i Unringed)
  same_ring i h = ap (λ (p : Place). is_ringed p.node) (node_held cd ns es held (place Unringed) i (omega (arith, counted)))

  pub decided_minimal : ((k : ℕ) → k < cd.count → f k ≡ k → RingIn cd.count f (ringed_in cd.nodes) k) → Decides (Minimal ns es) true
  decided_minimal has =
      record {
        only_when = λ _ i h.
            let path = of.member i h in
            let low : f i < length ns = path_in h path in
            let r = has (f i) (omega (arith, counted)) (sym (of.same i (f i) h low path)) in
            let inside : r.at < length ns = omega (arith, counted) in
            record { at = r.at; path = of.joins i r.at h inside (sym r.label); ring = record { inside = inside; ringed = sym (same_ring r.at inside) ∙ r.ring } };
        when = λ _. refl;
      }

  pub decided_not_minimal : (k : ℕ) → k < cd.count → f k ≡ k → ((i : ℕ) → i < cd.count → f i ≡ k → ringed_in cd.nodes i ≡ false) → Decides (Minimal ns es) false
  decided_not_minimal k h own none =
      record {
        only_when = λ e. absurd (false≢true e);
        when = λ all.
            let r = all k (omega (arith, counted)) in
            let inside = r.ring.inside in
            let label : f r.at ≡ k = sym (of.same k r.at (omega (arith, counted)) inside r.path) ∙ own in
            absurd (true≢false (sym r.ring.ringed ∙ sym (same_ring r.at inside) ∙ none r.at (omega (arith, counted)) label));
      }
