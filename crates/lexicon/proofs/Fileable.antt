-- The diagram of every accepted text can be filed: its values are doubles and no nan, so their patterns are those of numbers, and what joins two nodes is
-- a valid edge in lowest terms, or 2/1. Its stored edges are tidy. Assumes nothing.
use Prim.Native.Nat.{ℕ, zero, suc, ◌^◌, ◌<◌}
use mathlib.Core.Bool.{Bool, true, false}
use mathlib.Core.List.{List, [], ◌∷◌, map}
use mathlib.Core.Path.{◌≡◌, refl, ap, ◌∙◌}
use native.Mathlib.Nat.{not-suc-le-zero, le_of_suc-le-suc}
use native.Mathlib.Omega.{arith}
use lib.Dec.{T}
use lib.Ieee.{Float, binary64, fits, is_nan, to_bits, nan_bits}
use lib.Ieee.Bits.{of_bits-to_bits, to_bits-lt, nan_bits_is}
use lib.ListN.{length, get_or}
use Rattle.cd.specs.Diagrams.{Stored, joins, limit}
use Rattle.cd.specs.Edges.{is_edge, fraction, reduced}
use Rattle.cd.specs.declared.Edge.{Edge}
use Rattle.cd.specs.declared.Node.{Node}
use Rattle.cd.specs.declared.Node.TheVariants.{Unringed}
use Rattle.cd.proofs.LowestTerms.{den_positive, den_below}
use Rattle.filing.specs.Diagrams.{IsNode, IsEdge, IsDiagram}
use Rattle.filing.proofs.Gcd.{lowest_whole, lowest_twice}
use Rattle.filing.proofs.Layouts.{lowest_edge}
use Rattle.parse.specs.Reading.{Accepted, kept_edge, read}
use Rattle.parse.proofs.KeptEdges.{AsTyped, as_typed}
use Rattle.parse.proofs.Outcomes.{accepted_few}
use Rattle.tables.specs.Diagrams.{filed, joint, diagram}
use Rattle.tables.specs.Tables.{IsNumber, IsPair, IsKept}
use Rattle.tables.proofs.Joints.{two_edge, joint_symmetric}
use Rattle.lexicon.specs.All.{All, nil, cons}
use Rattle.lexicon.proofs.SoundNodes.{picked}
use Rattle.lexicon.proofs.Sound.{Sound, unringed, ringed, snub, SoundEdge, sound_nodes, sound_edges, tidy_edges}
use Rattle.lexicon.proofs.Tidy.{Tidy, tidy_kept}

-- ---- nodes

all_at : {P : Node → Type 0} (ns : List Node) (i : ℕ) → All P ns → i < length ns → P (get_or ns i Unringed)
all_at [] i nil h = absurd (not-suc-le-zero h)
all_at (n ∷ ns) zero (cons k ks) h = k
all_at (n ∷ ns) (suc i) (cons k ks) h = all_at ns i ks (le_of_suc-le-suc h)

pattern_number : (v : Float) → T (fits binary64 v) → is_nan v ≡ false → nan_bits binary64 (to_bits binary64 v) ≡ false
pattern_number v f h = nan_bits_is binary64 (to_bits binary64 v) ∙ ap is_nan (of_bits-to_bits binary64 v f) ∙ h

sound_node : {wish : Bool} {n : Node} → Sound wish n → IsNode (filed n)
unfolding filed nan_bits
sound_node unringed = record { kind_low = omega arith; kind_high = omega arith; bits_fit = omega arith; number = refl; unringed = λ e. refl }
sound_node (ringed {v} h) = record {
  kind_low = omega arith;
  kind_high = omega arith;
  bits_fit = to_bits-lt binary64 v h.double;
  number = pattern_number v h.double h.number;
  unringed = λ e. absurd (omega arith);
}
sound_node (snub {v} h) = record {
  kind_low = omega arith;
  kind_high = omega arith;
  bits_fit = to_bits-lt binary64 v h.double;
  number = pattern_number v h.double h.number;
  unringed = λ e. absurd (omega arith);
}

sound_number : {wish : Bool} {n : Node} → Sound wish n → IsNumber n
sound_number unringed = tt
sound_number (ringed h) = h.number
sound_number (snub h) = h.number

-- ---- edges

-- den is above 0 and below num
valid_edge : (e : Edge) → e.num < 2 ^ 32 → is_edge e.num e.den ≡ true → IsEdge (fraction e)
valid_edge e f h = record { fits = f; den_pos = den_positive e h; above_one = den_below e h }

kept_pair : (e : Edge) → IsEdge (fraction e) → IsPair (fraction (reduced e))
unfolding reduced
kept_pair e h = (lowest_edge h, lowest_twice (fraction e) h.den_pos)

joint_pair : (ts : List Stored) (i j : ℕ) → All SoundEdge ts → IsPair (joint (map kept_edge ts) i j)
unfolding joint joins
joint_pair [] i j nil = (two_edge, lowest_whole 2)
joint_pair (s ∷ ts) i j (cons h hs) = picked IsPair (joins i j s) (kept_pair s.edge (valid_edge s.edge h.num_fits h.valid)) (joint_pair ts i j hs)

-- ---- accepted texts

module _ (wish : Bool) (s : List ℕ) (ns : List Node) (es : List Stored) (h : read wish s ≡ Accepted ns es) where
  t : AsTyped wish s ns es
  t = as_typed wish s ns es h

  nodes_sound : All (Sound wish) ns
  nodes_sound = sound_nodes wish s ns t.edges t.read

  pair : (i j : ℕ) → IsPair (joint es i j)
  pair i j = rw t.kept (joint_pair t.edges i j (sound_edges wish s ns t.edges t.read))

  pub accepted_diagram : IsDiagram limit (diagram ns es)
  unfolding diagram
  accepted_diagram = record {
    few = accepted_few wish s ns es h;
    nodes = λ i l. sound_node (all_at ns i nodes_sound l);
    edges = λ i j l m ne. (pair i j).0;
    symmetric = λ i j l m ne. joint_symmetric es i j;
  }

  pub accepted_kept : IsKept limit (diagram ns es)
  unfolding diagram
  accepted_kept = record { is = accepted_diagram; lowest_terms = λ i j l m ne. (pair i j).1 }

  pub accepted_tidy : Tidy (length ns) es
  accepted_tidy = rw t.kept (tidy_kept (tidy_edges wish s ns t.edges t.read))

  pub accepted_numbers : (i : ℕ) → i < length ns → IsNumber (get_or ns i Unringed)
  accepted_numbers i l = sound_number (all_at ns i nodes_sound l)
