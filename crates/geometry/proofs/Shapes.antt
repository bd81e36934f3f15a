-- From what the code holds of a matrix and of mirrors to what the geometers' calls promise: case by case of the definitions. Assumes nothing.
use Rattle.std.specs.Prelude.{Result, Ok, Err, Some, None}
use Prim.Native.Nat.{ℕ, ◌+◌, ◌*◌, ◌≤◌, ◌<◌}
use mathlib.Core.Bool.{Bool, true, false, and-eq-true_iff}
use mathlib.Core.List.{List}
use mathlib.Core.Path.{◌≡◌, refl, sym, ap, ◌∙◌}
use native.Mathlib.Omega.{arith}
use borrow.Author.Tests.{leb-true}
use lib.Dec.{ltb, leb}
use lib.Ieee.{Float, nan}
use lib.ListN.{length, get_or}
use Rattle.cd.specs.Diagrams.{Stored, limit}
use Rattle.cd.specs.declared.CdError.{CdError}
use Rattle.cd.specs.declared.CdError.TheVariants.{Crowded, Infinite, NoFamily}
use Rattle.cd.specs.declared.Node.{Node}
use Rattle.cox.specs.Families.{family_matrix, is_family}
use Rattle.cox.specs.Matrix.{matrix}
use Rattle.cox.specs.Shown.{cox_of, family_of}
use Rattle.cox.specs.Squares.{flat_square}
use Rattle.cox.specs.Squares as squares
use Rattle.cox.specs.declared.Cox.{Cox}
use Rattle.float.specs.Pick.{pick}
use Rattle.cox.proofs.Flats.{square_at}
use Rattle.generator.specs.Generator.{values, first_infinite}
use Rattle.generator.specs.Shown.{generator_of}
use Rattle.generator.specs.TrueDistances.{coordinates}
use Rattle.generator.specs.declared.Generator.{Generator}
use Rattle.generator.proofs.Infinite.{found_node, found_none}
use Rattle.normals.specs.Mirrors.{Mirrors, Columns, mirrors}
use Rattle.normals.specs.Mirrors as normals
use Rattle.normals.specs.Shown.{mirrors_of}
use Rattle.normals.proofs.Triangle.{mirrors_local}
use Rattle.parse.specs.Reading.{Reading, Accepted, Refused, read}
use Rattle.parse.proofs.Outcomes.{accepted_few}
use Rattle.reflections.specs.Shown.{reflections_of}
use Rattle.reflections.specs.declared.Reflections.{Reflections}
use Rattle.geometry.specs.Points.{shown_generator, generator_over, shown_reflections, reflections_of_text}
use Rattle.geometry.specs.Squares as shown
use Rattle.geometry.specs.declared.Square.{Square}

-- ---- mirrors

pub columns_shown : (n : ℕ) (x : Mirrors) (at : List Float) → Ok at ≡ mirrors_of x → Ok (record { at = at; count = n }) ≡ shown.shown_mirrors n x
unfolding mirrors_of shown.shown_mirrors shown.square
columns_shown n (Columns f) at h = let e : at ≡ flat_square limit f = cc in rw e
columns_shown n (normals.Refused i) at h = cc

pub crowded_shown : (n : ℕ) (x : Mirrors) (e : CdError) → Err e ≡ mirrors_of x → Err e ≡ shown.shown_mirrors n x
unfolding mirrors_of shown.shown_mirrors
crowded_shown n (Columns f) e h = cc
crowded_shown n (normals.Refused i) e h = cc

pub crowded : (x : Mirrors) (i : ℕ) → Err (Crowded i) ≡ mirrors_of x → x ≡ normals.Refused i
unfolding mirrors_of
crowded (Columns f) i h = cc
crowded (normals.Refused j) i h = let z : j ≡ i = cc in rw z

-- which mirrors are shown
pub record Fits (n : ℕ) (x : Mirrors) (s : Square) : Type 0 where
  pub square : squares.Square
  pub is : x ≡ Columns square
  pub held : s.at ≡ flat_square limit square
  pub count : s.count ≡ n

pub fits : (n : ℕ) (x : Mirrors) (s : Square) → Ok s ≡ shown.shown_mirrors n x → Fits n x s
unfolding shown.shown_mirrors shown.square
fits n (Columns f) s h = let e : s ≡ shown.square n f = cc in record { square = f; is = refl; held = ap (λ (y : Square). y.at) e; count = ap (λ (y : Square). y.count) e }
fits n (normals.Refused i) s h = cc

-- ---- of a text

module _ (ns : List Node) (es : List Stored) (cox : Cox) (held : cox ≡ cox_of ns es) where
  -- what the code holds of a diagram's matrix
  pub matrix_at : cox.at ≡ flat_square limit (matrix es)
  unfolding cox_of
  matrix_at = ap (λ (y : Cox). y.at) held

  pub matrix_count : cox.count ≡ length ns
  unfolding cox_of
  matrix_count = ap (λ (y : Cox). y.count) held

  pub matrix_shown : (x : Reading) → x ≡ Accepted ns es → Ok (record { at = cox.at; count = cox.count }) ≡ shown.matrix_of x
  unfolding cox_of shown.square shown.matrix_of
  matrix_shown x is = rw (is, held)

  -- the mirrors of a diagram's matrix
  pub diagram_normals : (walls : Bool) (r : Result Square CdError) → ((e : squares.Square) → cox.at ≡ flat_square limit e → r ≡ shown.shown_mirrors cox.count (mirrors walls e cox.count))
      → r ≡ shown.shown_mirrors (length ns) (mirrors walls (matrix es) (length ns))
  unfolding cox_of
  diagram_normals walls r f = f (matrix es) (ap (λ (y : Cox). y.at) held) ∙ ap (λ (y : Cox). shown.shown_mirrors y.count (mirrors walls (matrix es) y.count)) held

  pub diagram_few : (wish : Bool) (text : List ℕ) → read wish text ≡ Accepted ns es → cox.count ≤ limit
  unfolding cox_of
  diagram_few wish text is = rw held (accepted_few wish text ns es is)

pub matrix_refused : (x : Reading) (e : CdError) → x ≡ Refused e → Err e ≡ shown.matrix_of x
unfolding shown.matrix_of
matrix_refused x e is = rw is

pub normals_shown : (walls : Bool) (x : Reading) (ns : List Node) (es : List Stored) (r : Result Square CdError) → x ≡ Accepted ns es
    → r ≡ shown.shown_mirrors (length ns) (mirrors walls (matrix es) (length ns)) → r ≡ shown.normals_of walls x
unfolding shown.normals_of
normals_shown walls x ns es r is h = rw is h

pub normals_refused : (walls : Bool) (x : Reading) (e : CdError) → x ≡ Refused e → Err e ≡ shown.normals_of walls x
unfolding shown.normals_of
normals_refused walls x e is = rw is

-- ---- families

module _ (c n : ℕ) where
  pub family_at : (cox : Cox) → cox ≡ family_of c n → cox.at ≡ flat_square limit (family_matrix c)
  unfolding family_of
  family_at cox h = ap (λ (y : Cox). y.at) h

  pub few : is_family limit c n ≡ true → n ≤ limit
  unfolding is_family
  few t = leb-true n limit ((and-eq-true_iff (leb n limit) _).0 t).0

  -- a family's matrix, or its refusal
  abbrev pub Held : Result Cox CdError → Type 0
  Held r = r ≡ pick (is_family limit c n) (Ok (family_of c n)) (Err NoFamily)

  pub record Family (cox : Cox) : Type 0 where
    pub is : is_family limit c n ≡ true
    pub held : cox ≡ family_of c n

  pub family : (cox : Cox) → Held (Ok cox) → Family cox
  family cox h = of (is_family limit c n) refl
    where
      of : (t : Bool) → is_family limit c n ≡ t → Family cox
      of true t = let k = rw t at h in record { is = t; held = (cc) }
      of false t = let k = rw t at h in cc

  pub no_family : (e : CdError) → Held (Err e) → (is_family limit c n ≡ false) × (e ≡ NoFamily)
  no_family e h = of (is_family limit c n) refl
    where
      of : (t : Bool) → is_family limit c n ≡ t → (is_family limit c n ≡ false) × (e ≡ NoFamily)
      of true t = let k = rw t at h in cc
      of false t = let k = rw t at h in (t, (cc))

  pub family_shown : (cox : Cox) → Held (Ok cox) → Ok (record { at = cox.at; count = cox.count }) ≡ shown.family_matrix_of c n
  unfolding family_of shown.square shown.family_matrix_of
  family_shown cox h = let f = family cox h in rw (f.is, f.held)

  pub family_refused : (e : CdError) → Held (Err e) → Err e ≡ shown.family_matrix_of c n
  unfolding shown.family_matrix_of
  family_refused e h = let (t, k) = no_family e h in rw (t, k)

  pub family_few : (cox : Cox) → Held (Ok cox) → cox.count ≤ limit
  unfolding family_of
  family_few cox h = let f = family cox h in rw f.held (few f.is)

  pub family_normals_shown : (walls : Bool) (cox : Cox) (r : Result Square CdError) → Held (Ok cox)
      → ((e : squares.Square) → cox.at ≡ flat_square limit e → r ≡ shown.shown_mirrors cox.count (mirrors walls e cox.count)) → r ≡ shown.family_normals_of walls c n
  unfolding family_of shown.family_normals_of
  family_normals_shown walls cox r h g =
      let f = family cox h in
      rw f.is (g (family_matrix c) (ap (λ (y : Cox). y.at) f.held) ∙ ap (λ (y : Cox). shown.shown_mirrors y.count (mirrors walls (family_matrix c) y.count)) f.held)

  pub family_normals_refused : (walls : Bool) (e : CdError) → Held (Err e) → Err e ≡ shown.family_normals_of walls c n
  unfolding shown.family_normals_of
  family_normals_refused walls e h = let (t, k) = no_family e h in rw (t, k)

  -- THE MIRRORS AND THE WALLS OF A FAMILY ARE THOSE OF THE MATRIX THAT `family_matrix` ANSWERS
  pub family_normals_of_matrix : (walls : Bool) (m : squares.Square) → is_family limit c n ≡ true → shown.family_matrix_of c n ≡ Ok (shown.square n m)
      → shown.family_normals_of walls c n ≡ shown.shown_mirrors n (mirrors walls m n)
  unfolding shown.square shown.family_matrix_of shown.family_normals_of
  family_normals_of_matrix walls m t h =
      let whole : shown.square n (family_matrix c) ≡ shown.square n m = let k = rw t at h in cc in
      let same : flat_square limit (family_matrix c) ≡ flat_square limit m = ap (λ (y : Square). y.at) whole in
      let entry : (i j : ℕ) → j < i → i < n → family_matrix c i j ≡ m i j = λ i j l k.
      let inside : i < limit = omega (arith, few t) in
      sym (square_at limit (family_matrix c) nan i j inside (omega arith)) ∙ ap (λ z. get_or z (limit * i + j) nan) same ∙ square_at limit m nan i j inside (omega arith) in
      rw t (ap (shown.shown_mirrors n) (mirrors_local walls (family_matrix c) m n entry))

-- ---- the generator

module _ (walls : Bool) (ns : List Node) where
  pub generator_crowded : (x : Mirrors) (n : ℕ) (e : CdError) → Err e ≡ shown.shown_mirrors n x → Err e ≡ shown_generator walls ns x
  unfolding shown.shown_mirrors shown_generator
  generator_crowded (Columns m) n e h = cc
  generator_crowded (normals.Refused i) n e h = let z : e ≡ Crowded i = cc in rw z

  module _ (m : squares.Square) where
    module _ (n : ℕ) (count : n ≡ length ns) where
      pub generator_infinite : (i : ℕ) → pick (ltb (first_infinite ns 0) n) (Some (first_infinite ns 0)) None ≡ Some i → Err (Infinite i) ≡ shown_generator walls ns (Columns m)
      unfolding shown_generator
      generator_infinite i h = let (t, k) = found_node _ _ _ h in rw (← count, t, k)

      pub generator_solved : (g : Generator) → pick (ltb (first_infinite ns 0) n) (Some (first_infinite ns 0)) None ≡ None → g ≡ generator_of n (coordinates walls m n (values ns)) → Ok g ≡ shown_generator walls ns (Columns m)
      unfolding shown_generator
      generator_solved g h e = rw (← count, found_none _ _ h, e)

pub generator_shown : (walls : Bool) (x : Reading) (ns : List Node) (es : List Stored) (m : Mirrors) (r : Result Generator CdError) → x ≡ Accepted ns es → mirrors walls (matrix es) (length ns) ≡ m
    → r ≡ shown_generator walls ns m → r ≡ generator_over walls x
unfolding generator_over
generator_shown walls x ns es m r is e h = rw (is, e) h

pub generator_refused : (walls : Bool) (x : Reading) (e : CdError) → x ≡ Refused e → Err e ≡ generator_over walls x
unfolding generator_over
generator_refused walls x e is = rw is

-- ---- the reflections

-- which mirrors of a text are shown
pub record Mirrored (x : Reading) (s : Square) : Type 0 where
  pub ns : List Node
  pub es : List Stored
  pub is : x ≡ Accepted ns es
  pub fits : Fits (length ns) (mirrors false (matrix es) (length ns)) s

pub mirrored : (x : Reading) (s : Square) → Ok s ≡ shown.mirrors_of x → Mirrored x s
unfolding shown.normals_of
mirrored (Accepted ns es) s h = record { ns = ns; es = es; is = refl; fits = fits _ _ s h }
mirrored (Refused e) s h = cc

pub mirrored_few : (wish : Bool) (text : List ℕ) (s : Square) → Mirrored (read wish text) s → s.count ≤ limit
mirrored_few wish text s m = rw m.fits.count (accepted_few wish text m.ns m.es m.is)

pub reflections_shown : (x : Reading) (s : Square) (r : Reflections) (m : Mirrored x s) → r ≡ reflections_of s.count m.fits.square → Ok r ≡ reflections_of_text x
unfolding reflections_of_text shown_reflections
reflections_shown x s r m h = rw (m.is, m.fits.is, ← m.fits.count, h)

pub reflections_refused : (x : Reading) (e : CdError) → Err e ≡ shown.mirrors_of x → Err e ≡ reflections_of_text x
unfolding shown.normals_of shown.shown_mirrors reflections_of_text shown_reflections
reflections_refused (Accepted ns es) e h = crowded (mirrors false (matrix es) (length ns)) h
  where
    crowded : (x : Mirrors) → Err e ≡ shown.shown_mirrors (length ns) x → Err e ≡ shown_reflections (length ns) x
    crowded (Columns m) k = cc
    crowded (normals.Refused i) k = let z : e ≡ Crowded i = cc in rw z
reflections_refused (Refused d) e h = let z : e ≡ d = cc in rw z
