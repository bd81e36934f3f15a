-- What bytes spell is a diagram in lowest terms exactly when their count is at most N, their nodes are nodes and their pairs are edges in lowest terms: each pair
-- has its place, and each place is a pair's. Assumes nothing.
use mathlib.Core.List.{List}
use mathlib.Core.Logic.{◌≢◌}
use mathlib.Core.Path.{ap, subst}
use Prim.Native.Nat.{ℕ, ◌≤◌, ◌<◌}
use native.Mathlib.Decide.{dec_lt}
use native.Mathlib.Omega.{arith}
use lib.ListN.{get_or}
use Rattle.filing.specs.Diagrams.{IsDiagram}
use Rattle.filing.specs.Readable.{pair_place, fraction_at, spelled}
use Rattle.filing.proofs.Readback.{pair_place_comm}
use Rattle.tables.specs.Tables.{IsPair, IsKept}
use Rattle.readback.specs.Steps.{NodesTo, PairsTo}
use Rattle.readback.proofs.PairPlaces.{pair_below, pair_numbered, place_rising}

module _ (N : ℕ) (l : List ℕ) where
  pub spelled_few : IsDiagram N (spelled N l) → get_or l 0 0 ≤ N
  unfolding spelled
  spelled_few w = w.few

  pub spelled_nodes : IsDiagram N (spelled N l) → NodesTo l (get_or l 0 0)
  unfolding spelled
  spelled_nodes w = w.nodes

  pub spelled_pairs : IsKept N (spelled N l) → PairsTo N l (get_or l 0 0)
  unfolding spelled
  spelled_pairs w k h =
      let p = pair_numbered (get_or l 0 0) k h in
      let low : p.low < get_or l 0 0 = omega (arith, p.rising, p.below) in
      let apart : p.low ≢ p.high = omega (arith, p.rising) in
      rw p.number (subst (λ z. IsPair (fraction_at l z)) (place_rising N p.low p.high p.rising)
      (w.is.edges p.low p.high low p.below apart, w.lowest_terms p.low p.high low p.below apart))

  pub spelled_diagram : get_or l 0 0 ≤ N → NodesTo l (get_or l 0 0) → PairsTo N l (get_or l 0 0) → IsKept N (spelled N l)
  unfolding spelled
  spelled_diagram few ns ps = record {
    is = record { few = few; nodes = ns; edges = λ i j hi hj ne. (pairs i j hi hj ne).0; symmetric = λ i j hi hj ne. ap (fraction_at l) (pair_place_comm N i j) };
    lowest_terms = λ i j hi hj ne. (pairs i j hi hj ne).1;
  }
    where
      rising : (i j : ℕ) → i < j → j < get_or l 0 0 → IsPair (fraction_at l (pair_place N i j))
      rising i j h k = rw (place_rising N i j h) (ps _ (pair_below (get_or l 0 0) i j h k))

      pairs : (i j : ℕ) → i < get_or l 0 0 → j < get_or l 0 0 → i ≢ j → IsPair (fraction_at l (pair_place N i j))
      pairs i j hi hj ne = elim (dec_lt i j) [
        | yes h ↦ rising i j h hj
        | no h ↦ rw (pair_place_comm N i j) (rising j i (omega arith) hi)
      ]
