-- What tables made of a Cd hold of its diagram. The first stored edge that joins two nodes is what both `between` and `joint` tell, by induction on the
-- stored edges; an edge's den is above 0, and so only a pair that nothing joins counts as 2/1. That the entries fit their bytes, tables carry with them.
-- Assumes nothing.
use Prim.Native.Nat.{ℕ, ◌+◌, ◌*◌, ◌<◌}
use mathlib.Core.Bool.{Bool, true, false}
use mathlib.Core.List.{List, [], ◌∷◌}
use mathlib.Core.Logic.{◌≢◌}
use mathlib.Core.Path.{◌≡◌, refl, sym, ap, ◌∙◌}
use native.Mathlib.Omega.{arith}
use borrow.Author.Tests.{eq-eqb, ne_eqb}
use lib.ListN.{length, get_or}
use Rattle.float.specs.Pick.{pick}
use Rattle.cd.specs.Diagrams.{Stored, joins, between, limit, none, place, place_of, cd_of}
use Rattle.cd.specs.Edges.{fraction}
use Rattle.cd.specs.declared.Cd.{Cd}
use Rattle.cd.specs.declared.Edge.{Edge}
use Rattle.cd.specs.declared.Node.{Node}
use Rattle.cd.specs.declared.Node.TheVariants.{Unringed}
use Rattle.cd.specs.declared.Pair.{Pair}
use Rattle.cd.specs.declared.Place.{Place}
use Rattle.cd.proofs.Stored.{loaded, count_held, node_held, pairs_held}
use Rattle.filing.specs.Fractions.{Fraction}
use Rattle.filing.specs.Numberings.{at}
use Rattle.tables.specs.Diagrams.{filed, two, joint, diagram}
use Rattle.tables.specs.Tables.{IsKept, spelt, number, pair_number, PairTable, Entries, entries, Fits, Holds}
use Rattle.tables.specs.declared.entries.Tables.{Tables}

-- ---- the number of a pair's place

pub number_of_nothing : (p : Pair) → p.edge.den ≡ 0 → pair_number p ≡ spelt two
unfolding pair_number
number_of_nothing p e = rw (eq-eqb p.edge.den 0 e)

pub number_of_edge : (p : Pair) → (p.edge.den ≡ 0 → ⊥) → pair_number p ≡ spelt (fraction p.edge)
unfolding pair_number
number_of_edge p e = rw (ne_eqb p.edge.den 0 e)

-- of an edge and what is told without it, the one picked
number_picked : (t : Bool) (k : ℕ) (e : Edge) (q : Pair) (x : Fraction) → (0 < x.den → pair_number q ≡ spelt x) → 0 < (pick t (fraction e) x).den → pair_number (pick t (record { rank = k; edge = e }) q) ≡ spelt (pick t (fraction e) x)
number_picked true k e q x f h = number_of_edge (record { rank = k; edge = e }) (λ z. omega arith)
number_picked false k e q x f h = f h

pub number_between : (k : ℕ) (es : List Stored) (i j : ℕ) → 0 < (joint es i j).den → pair_number (between k es i j) ≡ spelt (joint es i j)
unfolding between joint
number_between k [] i j h = number_of_nothing none refl
number_between k (s ∷ es) i j h = number_picked (joins i j s) k s.edge (between (k + 1) es i j) (joint es i j) (number_between (k + 1) es i j) h

-- ---- the entries of tables

pub entries_fit : (t : Tables) → Fits (entries t)
entries_fit t = record { kinds = t.kinds_fit; bits = t.bits_fit; pairs = t.pairs_fit }

-- ---- the tables of a Cd

module _ (cd : Cd) (ns : List Node) (es : List Stored) (held : cd ≡ cd_of ns es) where
  -- the numbers of the pairs
  pub pairs_hold : (pairs : List ℕ) → PairTable limit cd.count cd.pairs pairs → IsKept limit (diagram ns es) → (i j : ℕ) → i < length ns → j < length ns → i ≢ j → at pairs (limit * i + j) ≡ number (joint es i j)
  unfolding diagram number
  pairs_hold pairs table d i j h l ne =
      let low : i < limit = omega (arith, d.is.few) in
      let low' : j < limit = omega (arith, d.is.few) in
      table i j (omega (arith, count_held cd ns es held)) low'
      ∙ ap pair_number (ap (λ q. get_or q (place_of i j) none) (pairs_held cd ns es held) ∙ loaded es i j none low low')
      ∙ number_between 1 es i j (d.is.edges i j h l ne).den_pos
      ∙ ap spelt (sym (d.lowest_terms i j h l ne))

  -- the array that f of each node fills
  abbrev NodeTable : (Place → ℕ) → List ℕ → Type 0
  NodeTable f xs = (i : ℕ) → i < limit → at xs i ≡ f (get_or cd.nodes i (place Unringed))

  pub tables_hold : (t : Entries) → t.count ≡ cd.count → NodeTable (λ p. (filed p.node).kind) t.kinds → NodeTable (λ p. (filed p.node).bits) t.bits → PairTable limit cd.count cd.pairs t.pairs → IsKept limit (diagram ns es) → Holds limit t (diagram ns es)
  unfolding diagram
  tables_hold t n ks bs ps d = record {
    count = n ∙ count_held cd ns es held;
    kinds = λ i h. let low : i < limit = omega (arith, d.is.few) in ks i low ∙ ap (λ p. (filed p.node).kind) (node_held cd ns es held (place Unringed) i low);
    bits = λ i h. let low : i < limit = omega (arith, d.is.few) in bs i low ∙ ap (λ p. (filed p.node).bits) (node_held cd ns es held (place Unringed) i low);
    pairs = pairs_hold t.pairs ps d;
  }
