-- One more component in the list, and what the list says of each way in which a node is met. Assumes nothing.
use mathlib.Core.List.{List, [], ◌∷◌, ◌++◌}
use mathlib.Core.Logic.{◌≢◌}
use mathlib.Core.Path.{◌≡◌, refl, sym, ap, ◌∙◌, subst}
use Prim.Native.Nat.{ℕ, ◌+◌, ◌*◌, ◌≤◌, ◌<◌}
use native.Mathlib.Nat.{le_refl, le_of_lt}
use native.Mathlib.Numerals.{add-one}
use native.Mathlib.Omega.{arith}
use lib.ListN.{length, get_or, set, length-append}
use Rattle.std.specs.Prelude.{Ok, Err}
use Rattle.cd.specs.Diagrams.{Stored, limit, none, cd_of}
use Rattle.cd.specs.Minimal.{Linked}
use Rattle.cd.specs.Paths.{Labelled}
use Rattle.cd.specs.declared.Cd.{Cd}
use Rattle.cd.specs.declared.CdError.TheVariants.{NoName}
use Rattle.cd.specs.declared.Node.{Node}
use Rattle.cd.specs.declared.Pair.{Pair}
use Rattle.cd.proofs.Arrays.{set_padded, place_symmetric}
use Rattle.cd.proofs.Stored.{count_held}
use Rattle.filing.specs.Diagrams.{IsEdge}
use Rattle.filing.specs.Numberings.{at}
use Rattle.tables.specs.Diagrams.{joint, diagram}
use Rattle.tables.specs.Tables.{IsKept, number, pair_number, PairTable}
use Rattle.tables.proofs.Held.{pairs_hold}
use Rattle.group_names.specs.Named as named
use Rattle.group_names.specs.Named.{Names, blank, group, listing}
use Rattle.group_names.specs.Names.{order}
use Rattle.group_names.specs.declared.Group.{Group}
use Rattle.group_names.specs.declared.Groups.{Groups}
use Rattle.group_names.specs.declared.Name.{Name}
use Rattle.group_search.specs.Steps.{Takes, Walks, Mirrored}
use Rattle.group_search.specs.Steps as steps
use Rattle.group_search.proofs.Reaching.{walks_lists, nameless_component}

length_more : (gs : List Group) (g : Group) → length gs + 1 ≡ length (gs ++ (g ∷ []))
length_more gs g = sym (length-append gs (g ∷ []))

pub listing_more : (r : Groups) (gs : List Group) (g : Group) → r ≡ listing gs → length gs < limit
    → ◌≡◌ {A = Groups} (record { at = set r.at r.count g; count = r.count + 1 }) (listing (gs ++ (g ∷ [])))
listing_more r gs g e h =
    ap (λ (z : Groups). record { at = set z.at z.count g; count = z.count + 1 }) e
    ∙ (λ i. record { at = set_padded blank g limit gs h i; count = length_more gs g i })

-- ---- a list goes on, or stops

-- where a list stands before node c
pub record Stands (N : ℕ) (pairs of : List ℕ) (n c : ℕ) (r : Groups) : Type 0 where
  pub groups : List Group
  pub shown : r ≡ listing groups
  pub short : length groups ≤ c
  pub walks : Walks N pairs of n c groups

pub stands_first : {N n : ℕ} {pairs of : List ℕ} {r : Groups} → r ≡ listing [] → Stands N pairs of n 0 r
stands_first e = record { groups = []; shown = e; short = omega arith; walks = steps.Walks.none }

module _ {N n c : ℕ} {pairs of : List ℕ} {r : Groups} (s : Stands N pairs of n c r) where
  pub stands_passed : {r' : Groups} → at of c ≢ c → r' ≡ r → Stands N pairs of n (c + 1) r'
  stands_passed o e = record { groups = s.groups; shown = e ∙ s.shown; short = omega (arith, s.short); walks = rw (add-one c) (steps.Walks.passed s.walks o) }

  pub stands_listed : {x : Name} {o : ℕ} {r' : Groups} → c < limit → at of c ≡ c → Takes N pairs of n c x → o ≡ order x
      → r' ≡ record { at = set r.at r.count (record { node = c; name = x; order = o }); count = r.count + 1 } → Stands N pairs of n (c + 1) r'
  stands_listed {x} h own t q e = record {
    groups = s.groups ++ (group c x ∷ []);
    shown = e ∙ ap {B = Groups} (λ z. record { at = set r.at r.count (record { node = c; name = x; order = z }); count = r.count + 1 }) q ∙ listing_more r s.groups (group c x) s.shown (omega (arith, s.short));
    short = omega (arith, length_more s.groups (group c x), s.short);
    walks = rw (add-one c) (steps.Walks.listed s.walks own t);
  }

-- ---- what a diagram's components are told as

module _ (cd : Cd) (ns : List Node) (es : List Stored) (held : cd ≡ cd_of ns es) (d : IsKept limit (diagram ns es)) (pairs of : List ℕ)
    (table : PairTable limit cd.count cd.pairs pairs) (labelled : Labelled (Linked (length ns) es) (length ns) (at of)) where
  n : ℕ
  n = length ns

  few : n ≤ limit
  unfolding n diagram
  few = d.is.few

  edges : (u v : ℕ) → u < n → v < n → u ≢ v → IsEdge (joint es u v)
  unfolding n diagram
  edges = d.is.edges

  numbers : (u v : ℕ) → u < n → v < n → u ≢ v → at pairs (limit * u + v) ≡ number (joint es u v)
  unfolding n
  numbers = pairs_hold cd ns es held pairs table d

  count : cd.count ≡ n
  unfolding n
  count = count_held cd ns es held

  module _ {r : Groups} where
    pub names_listed : {c : ℕ} → cd.count ≤ c → c ≤ cd.count → Stands limit pairs of cd.count c r → Names (length ns) es (Ok r)
    unfolding n
    names_listed {c} h k w =
        let e : c ≡ n = omega (arith, count) in
        let walks : Walks limit pairs of n n w.groups = subst (λ m. Walks limit pairs of m n w.groups) count (subst (λ m. Walks limit pairs of cd.count m w.groups) e w.walks) in
        named.named (walks_lists n es limit pairs of labelled numbers edges (le_refl n) walks) (ap Ok w.shown)

    pub names_refused : {c : ℕ} → c < cd.count → Stands limit pairs of cd.count c r → at of c ≡ c → ((x : Name) → Takes limit pairs of cd.count c x → ⊥) → Names (length ns) es (Err (NoName c))
    unfolding n
    names_refused {c} h w own none =
        let l : c < n = omega (arith, count) in
        let f = nameless_component n es limit pairs of labelled numbers edges l own (λ x t. none x (subst (λ m. Takes limit pairs of m c x) (sym count) t)) in
        named.nameless l (walks_lists n es limit pairs of labelled numbers edges (le_of_lt l) (subst (λ m. Walks limit pairs of m c w.groups) count w.walks)) f.0 f.1 refl

-- the table has each pair in both orders
pub table_mirrored : {n : ℕ} (ps : List Pair) (pairs : List ℕ) → n ≤ limit → PairTable limit n ps pairs → Mirrored limit n pairs
table_mirrored ps pairs few table u v hu hv = table u v hu (omega arith) ∙ ap (λ q. pair_number (get_or ps q none)) (place_symmetric u v) ∙ sym (table v u hv (omega arith))
