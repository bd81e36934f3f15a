-- Document 02, K2: "Matrix bits don't change, since both quotients round the same fraction". The edges as typed have the matrix of the edges kept, entry by
-- entry, and so what the calls show of a text is what its edges as typed would show. Numbers of 32 bits are doubles exactly. Assumes nothing.
use Rattle.std.specs.Prelude.{Ok}
use mathlib.Core.Bool.{Bool, false}
use mathlib.Core.List.{List, [], ◌∷◌, map}
use mathlib.Core.Path.{◌≡◌, refl, ap}
use Prim.Native.Nat.{ℕ, ◌^◌, ◌<◌}
use native.Mathlib.Omega.{arith}
use lib.Dec.{eqb}
use lib.ListN.{length}
use Rattle.float.specs.Pick.{pick}
use Rattle.float.proofs.Quotients.{same_quotient}
use Rattle.cd.specs.Diagrams.{Stored, joins}
use Rattle.cd.specs.Edges.{fraction, reduced}
use Rattle.cd.specs.declared.Edge.{Edge}
use Rattle.cd.specs.declared.Node.{Node}
use Rattle.cd.proofs.LowestTerms.{den_positive, den_below}
use Rattle.cox.specs.Matrix.{quotient, between, matrix}
use Rattle.cox.specs.Squares.{one}
use Rattle.cox.specs.Squares as squares
use Rattle.filing.proofs.Gcd.{lowest_num_le, lowest_den_le, lowest_positive, lowest_is_same}
use Rattle.lexicon.specs.All.{All, nil, cons}
use Rattle.lexicon.proofs.Sound.{SoundEdge, sound_edges}
use Rattle.normals.specs.Mirrors.{mirrors}
use Rattle.parse.specs.Reading.{Reading, Accepted, Refused, kept_edge, kept, typed, read}
use Rattle.geometry.specs.Points.{shown_generator, generator_over, shown_reflections, reflections_of_text}
use Rattle.geometry.specs.Squares.{square, shown_mirrors, matrix_of, normals_of}

-- ---- the entries

-- NUM AND DEN OF 32 BITS, DEN NOT 0, AND THEIR LOWEST TERMS HAVE THE SAME QUOTIENT
pub quotient_reduced : (e : Edge) → e.num < 2 ^ 32 → e.den < 2 ^ 32 → 0 < e.den → quotient (reduced e) ≡ quotient e
unfolding quotient reduced
quotient_reduced e n d p =
    let x = fraction e in
    same_quotient _ _ e.num e.den (omega (arith, lowest_num_le x)) (omega (arith, lowest_den_le x)) (omega arith) (omega arith)
    (lowest_positive x p) p (lowest_is_same x)

between_kept : (ts : List Stored) (i j : ℕ) → All SoundEdge ts → between (map kept_edge ts) i j ≡ between ts i j
unfolding between joins
between_kept [] i j nil = refl
between_kept (s ∷ ts) i j (cons h hs) =
    let b = den_below s.edge h.valid in
    rw (quotient_reduced s.edge h.num_fits (omega (arith, h.num_fits)) (den_positive s.edge h.valid), between_kept ts i j hs)

-- THE MATRIX OF THE EDGES KEPT IS THE MATRIX OF THE EDGES AS TYPED, ENTRY BY ENTRY
pub same_entry : (wish : Bool) (s : List ℕ) (ns : List Node) (ts : List Stored) → typed wish s ≡ Accepted ns ts → (i j : ℕ) → matrix (map kept_edge ts) i j ≡ matrix ts i j
unfolding matrix
same_entry wish s ns ts h i j = ap (pick (eqb i j) one) (between_kept ts i j (sound_edges wish s ns ts h))

-- ---- the calls

-- what is shown of a matrix does not tell the edges as typed from those kept
shown_as_typed : {A : Type 0} (f : Reading → A) → ((ns : List Node) (es ts : List Stored) → matrix es ≡ matrix ts → f (Accepted ns es) ≡ f (Accepted ns ts)) → (wish : Bool) (s : List ℕ) → f (read wish s) ≡ f (typed wish s)
unfolding read typed kept
shown_as_typed f same wish s = of (typed wish s) refl
  where
    of : (x : Reading) → typed wish s ≡ x → f (kept x) ≡ f x
    of (Accepted ns ts) h = same ns (map kept_edge ts) ts (λ t i j. same_entry wish s ns ts h i j t)
    of (Refused r) h = refl

pub matrix_as_typed : (wish : Bool) (s : List ℕ) → matrix_of (read wish s) ≡ matrix_of (typed wish s)
unfolding matrix_of
matrix_as_typed wish s = shown_as_typed matrix_of (λ ns es ts h. ap (λ (m : squares.Square). Ok (square (length ns) m)) h) wish s

pub normals_as_typed : (walls wish : Bool) (s : List ℕ) → normals_of walls (read wish s) ≡ normals_of walls (typed wish s)
unfolding normals_of
normals_as_typed walls wish s = shown_as_typed (normals_of walls) (λ ns es ts h. ap (λ (m : squares.Square). shown_mirrors (length ns) (mirrors walls m (length ns))) h) wish s

pub generator_as_typed : (walls wish : Bool) (s : List ℕ) → generator_over walls (read wish s) ≡ generator_over walls (typed wish s)
unfolding generator_over
generator_as_typed walls wish s = shown_as_typed (generator_over walls) (λ ns es ts h. ap (λ (m : squares.Square). shown_generator walls ns (mirrors walls m (length ns))) h) wish s

pub reflections_as_typed : (wish : Bool) (s : List ℕ) → reflections_of_text (read wish s) ≡ reflections_of_text (typed wish s)
unfolding reflections_of_text
reflections_as_typed wish s = shown_as_typed reflections_of_text (λ ns es ts h. ap (λ (m : squares.Square). shown_reflections (length ns) (mirrors false m (length ns))) h) wish s
