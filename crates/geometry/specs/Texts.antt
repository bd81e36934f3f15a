-- Document 02, K7, and its texts to try, as a list that goes on from lexicon/specs/Texts.antt, which stands below these calls. proofs/TextsRight.antt proves each.
use Rattle.std.specs.Prelude.{ℕ, ◌+◌, ◌*◌, Bool, true, false, List, [], ◌∷◌, ◌≡◌, Float, get_or, Result, Ok, Err}
use Prim.Native.String.{String}
use Rattle.std.specs.Float.{binary64}
use Rattle.std.specs.Float.Ieee.{of_bits}
use Rattle.cd.specs.Diagrams.{limit}
use Rattle.cd.specs.Refusals.{number_of}
use Rattle.cd.specs.declared.CdError.{CdError}
use Rattle.cox.specs.Squares.{nil, one, flat, dot}
use Rattle.parse.specs.Reading.{Reading, read}
use Rattle.generator.specs.declared.Generator.{Generator}
use Rattle.scan.specs.Ascii.{ascii}
use Rattle.geometry.specs.Points.{wall_generator_of_text}
use Rattle.geometry.specs.Squares.{mirrors_of, walls_of}
use Rattle.geometry.specs.declared.Square.{Square}

-- ---- an entry, and when it is right

-- 0, or a refusal's number and fields
unfoldable pub numbers : {A : Type 0} → Result A CdError → List ℕ
unfolding number_of
numbers (Ok x) = 0 ∷ []
numbers (Err e) = number_of e

unfoldable pub coordinates : Result Generator CdError → List Float
unfolding flat
coordinates (Ok g) = flat g.count (λ i. get_or g.at i nil)
coordinates (Err e) = []

-- the product of the generator with column i, "the distance to its mirror"
unfoldable pub distance : Square → Generator → ℕ → Float
unfolding dot
distance walls g i = dot (λ k. get_or g.at k nil) (λ k. get_or walls.at (limit * i + k) nil) limit

unfoldable pub distances : Result Square CdError → Result Generator CdError → List Float
unfolding distance flat
distances (Ok walls) (Ok g) = flat g.count (distance walls g)
distances (Ok walls) (Err e) = []
distances (Err e) g = []

unfoldable pub radius : Result Generator CdError → Float
radius (Ok g) = g.radius
radius (Err e) = nil

-- what `mirrors`, `walls` and `wall_generator` answer, and of the last the coordinates, the distances from the walls, and the circumradius
pub record Answers : Type 0 where
  pub mirrors : List ℕ
  pub walls : List ℕ
  pub generator : List ℕ
  pub coordinates : List Float
  pub distances : List Float
  pub radius : Float

unfoldable pub answers : Reading → Answers
unfolding numbers coordinates distances radius
answers r =
    let g = wall_generator_of_text r in
    record {
      mirrors = numbers (mirrors_of r);
      walls = numbers (walls_of r);
      generator = numbers g;
      coordinates = coordinates g;
      distances = distances (walls_of r) g;
      radius = radius g;
    }

-- a text, whether infinite lengths are wished, and the answers
pub record Entry : Type 0 where
  pub text : String
  pub wish : Bool
  pub gives : Answers

abbrev pub RightEntry : Entry → Type 0
RightEntry e = answers (read e.wish (ascii e.text)) ≡ e.gives

-- ---- short names

abbrev accepted : String → List Float → List Float → Float → Entry
accepted text coordinates distances radius =
    record {
      text = text;
      wish = false;
      gives = record { mirrors = 0 ∷ []; walls = 0 ∷ []; generator = 0 ∷ []; coordinates = coordinates; distances = distances; radius = radius };
    }

-- what `mirrors`, `walls` and `wall_generator` answer
abbrev refused : String → Bool → List ℕ → List ℕ → List ℕ → Entry
refused text wish mirrors walls generator =
    record {
      text = text;
      wish = wish;
      gives = record { mirrors = mirrors; walls = walls; generator = generator; coordinates = []; distances = []; radius = nil };
    }

abbrev half : Float
half = of_bits binary64 0x3fe0_0000_0000_0000

-- ---- the list

unfoldable pub texts : List Entry
unfolding of_bits
texts =
    -- "For `x` alone the radius is exactly one half."
    accepted "x" (half ∷ []) (half ∷ []) half ∷
    -- of the Rust "`x3x` gets two different distances"; here they differ by rounding, the second being the double before one half
    accepted "x3x" (half ∷ of_bits binary64 0x3feb_b67a_e858_4cab ∷ []) (half ∷ of_bits binary64 0x3fdf_ffff_ffff_ffff ∷ []) one ∷
    -- "`o3o3o3*a`, an infinite group, must get no mirrors, while the Rust gives some"
    refused "o3o3o3*a" false (0 ∷ []) (15 ∷ 2 ∷ []) (15 ∷ 2 ∷ []) ∷
    -- no nodes: radius 0
    accepted "*a" [] [] nil ∷
    -- "15, then 16"
    refused "(inf)" true (0 ∷ []) (0 ∷ []) (16 ∷ 0 ∷ []) ∷
    refused "(inf)4o4o" true (15 ∷ 2 ∷ []) (15 ∷ 2 ∷ []) (15 ∷ 2 ∷ []) ∷
    []
