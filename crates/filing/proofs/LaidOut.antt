-- Whether bytes are laid out, and whether they are a diagram's record, is decided: what they spell has finitely many nodes and pairs to look at, and its record can be
-- found and compared. Assumes nothing.
use mathlib.Core.Bool.{false, Bool-discrete}
use mathlib.Core.List.{List, List-discrete}
use mathlib.Core.Logic.Dec
use mathlib.Core.Logic.{◌≢◌}
use mathlib.Core.Path.{◌≡◌, ap, subst}
use Prim.Native.Nat.{ℕ, zero, suc, ◌^◌, ◌<◌}
use native.Mathlib.Decide.{ℕ_discrete, dec_lt, dec_le, map_dec}
use native.Mathlib.Nat.{not-suc-le-zero}
use native.Mathlib.Omega.{arith}
use lib.Ieee.{binary64, nan_bits}
use Rattle.filing.specs.Diagrams.{Node, Diagram, IsNode, IsEdge, IsDiagram}
use Rattle.filing.specs.Fractions.{Fraction}
use Rattle.filing.specs.Readable.{LaidOut, fraction_at, spelled}
use Rattle.filing.specs.Records.{layout, IsRecord}
use Rattle.filing.proofs.Bytes.{one_more}
use Rattle.filing.proofs.Filing.{record_unique}
use Rattle.filing.proofs.Readback.{pair_place_comm, laid_out_iff}
use Rattle.filing.proofs.Searching.{record_exists}

-- ---- decisions

implied : {A B : Type 0} → Dec A → Dec B → Dec (A → B)
implied (yes a) (yes b) = yes (λ _. b)
implied (yes a) (no n) = no (λ f. n (f a))
implied (no n) d = yes (λ a. absurd (n a))

-- of all numbers below n
below_decided : (P : ℕ → Type 0) → ((i : ℕ) → Dec (P i)) → (n : ℕ) → Dec ((i : ℕ) → i < n → P i)
below_decided P d zero = yes (λ i h. absurd (not-suc-le-zero h))
below_decided P d (suc n) = go (below_decided P d n) (d n)
  where
    go : Dec ((i : ℕ) → i < n → P i) → Dec (P n) → Dec ((i : ℕ) → i < suc n → P i)
    go (yes a) (yes b) = yes (one_more P a b)
    go (yes a) (no b) = no (λ f. b (f n (omega arith)))
    go (no a) e = no (λ f. a (λ i h. f i (omega arith)))

-- ---- which are diagrams

node_decided : (v : Node) → Dec (IsNode v)
node_decided v =
    map_dec (λ ((a, b), (c, (d, e))). record { kind_low = a; kind_high = b; bits_fit = c; number = d; unringed = e })
    (λ w. ((w.kind_low, w.kind_high), (w.bits_fit, (w.number, w.unringed))))
    (Dec.and (Dec.and (dec_le 1 v.kind) (dec_le v.kind 3))
    (Dec.and (dec_lt v.bits (2 ^ 64)) (Dec.and (Bool-discrete (nan_bits binary64 v.bits) false) (implied (ℕ_discrete v.kind 1) (ℕ_discrete v.bits 0)))))

edge_decided : (x : Fraction) → Dec (IsEdge x)
edge_decided x =
    map_dec (λ (a, (b, c)). record { fits = a; den_pos = b; above_one = c }) (λ w. (w.fits, (w.den_pos, w.above_one)))
    (Dec.and (dec_lt x.num (2 ^ 32)) (Dec.and (dec_lt zero x.den) (dec_lt x.den x.num)))

diagram_decided : (N : ℕ) (d : Diagram) → ((i j : ℕ) → d.edge i j ≡ d.edge j i) → Dec (IsDiagram N d)
diagram_decided N d symmetric =
    map_dec (λ (a, (b, c)). record { few = a; nodes = b; edges = λ i j h k ne. c i h j k ne; symmetric = λ i j h k ne. symmetric i j })
    (λ w. (w.few, (w.nodes, λ i h j k ne. w.edges i j h k ne)))
    (Dec.and (dec_le d.size N)
    (Dec.and (below_decided (λ i. IsNode (d.node i)) (λ i. node_decided (d.node i)) d.size)
    (below_decided (λ i. (j : ℕ) → j < d.size → i ≢ j → IsEdge (d.edge i j))
    (λ i. below_decided (λ j. i ≢ j → IsEdge (d.edge i j)) (λ j. implied (Dec.not (ℕ_discrete i j)) (edge_decided (d.edge i j))) d.size) d.size)))

-- ---- which bytes are laid out, and which are a record

pub laid_out_decided : (N : ℕ) (l : List ℕ) → Dec (LaidOut N l)
unfolding spelled
laid_out_decided N l =
    map_dec (laid_out_iff N l).1 (laid_out_iff N l).0
    (Dec.and (diagram_decided N (spelled N l) (λ i j. ap (fraction_at l) (pair_place_comm N i j))) (List-discrete ℕ_discrete (layout N (spelled N l) (λ i. i)) l))

pub record_decided : (N : ℕ) (d : Diagram) (l : List ℕ) → Dec (IsRecord N d l)
record_decided N d l = let (bs, r) = record_exists N d in map_dec (λ e. subst (IsRecord N d) e r) (record_unique r) (List-discrete ℕ_discrete bs l)
