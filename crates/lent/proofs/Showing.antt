-- What a call tells and shows, case by case: refused, too short a slice, shown. Assumes nothing.
use Rattle.std.specs.Prelude.{Result, Ok, Err}
use mathlib.Core.Bool.{Bool, true, false}
use mathlib.Core.List.{List, [], ◌∷◌, ◌++◌}
use mathlib.Core.Path.{◌≡◌, refl, sym, ap, ap₂, subst, ◌∙◌}
use Prim.Native.Nat.{ℕ, ◌+◌, ◌-◌, ◌*◌, ◌≤◌, ◌<◌}
use native.Mathlib.Nat.{zero-add}
use native.Mathlib.Omega.{arith}
use borrow.Author.Tests.{lt-ltb, le-ltb}
use borrow.Rule.Slice.PartMut.{put_mid, mid_of}
use lib.ListN.{length, get_or, take, drop, replicate, length-append, length-drop, length-replicate, get_or-append}
use lib.Seq.{sets, sets-eq, length-sets, length-take-le}
use mir.Val.{bool_byte}
use Rattle.float.specs.Pick.{pick}
use Rattle.cd.specs.Arrays.{padded}
use Rattle.cd.specs.Diagrams.{limit, place}
use Rattle.cd.specs.declared.Cd.{Cd}
use Rattle.cd.specs.declared.CdError.{CdError}
use Rattle.cd.specs.declared.CdError.TheVariants.{ShortBuffer}
use Rattle.cd.specs.declared.Pair.{Pair}
use Rattle.cd.specs.declared.Place.{Place}
use Rattle.std.specs.List.{All}
use Rattle.std.proofs.lemmas.List.{get_or_default}
use Rattle.tables.specs.Tables.{IsNumber, Numbers}
use Rattle.cd.specs.declared.Node.TheVariants.{Unringed}
use Rattle.lent.specs.Outcomes.{Outcome, Shows, outcome, fitted, lent, told, figures, Lends}
use Rattle.group_names.specs.declared.Group.{Group}
use Rattle.group_names.specs.declared.Groups.{Groups}
use Rattle.cd.proofs.Arrays.{length_padded, padded_rest}
use Rattle.lent.specs.Shown.{names_length, group_numbers, names_of, flat, node_numbers, pair_numbers, numbers_of}
use Rattle.lent.proofs.Copying.{flat_length, sets_behind, sets_whole, sets_then}

-- a test as a number
pub flag : (b : Bool) → bool_byte b ≡ pick b 1 0
flag true = refl
flag false = refl

-- ---- what `fit` stores and answers, and what is told of a refusal

module _ {B : Type 0} (fs : List ℕ) (xs out : List B) where
  abbrev pub Fit : List B → Result (ℕ × ℕ × ℕ) CdError → Type 0
  Fit out' t = (out' ≡ lent (fitted (length out) (Shows fs xs)) out) × (figures t ≡ told (fitted (length out) (Shows fs xs)))

  pub fit_short : length out < length xs → Fit out (Err ShortBuffer)
  unfolding fitted lent told figures
  fit_short l = rw (lt-ltb (length out) (length xs) l) (refl, refl)

  pub fit_shown : (out' : List B) (a b c : ℕ) → length xs ≤ length out → out' ≡ sets out 0 xs → 0 ∷ a ∷ b ∷ c ∷ [] ≡ padded 0 4 (0 ∷ fs) → Fit out' (Ok (a, b, c))
  unfolding fitted lent told figures
  fit_shown out' a b c l s t = rw (le-ltb (length out) (length xs) l) (s, t)

  -- and what a call then tells
  pub lends_fit : (out' : List B) (r : Result (ℕ × ℕ × ℕ) CdError) {answer' : List ℕ} {n : ℕ} → Fit out' r → (answer' ≡ figures r) × (n ≡ get_or answer' 0 0) → Lends (Shows fs xs) out out' answer' n
  lends_fit out' r f t = record { slice = f.0; answer = t.0 ∙ f.1; returned = t.1 }

module _ {A B : Type 0} (f : A → List ℕ) (g : A → List B) (out : List B) {answer' : List ℕ} {n : ℕ} where
  pub lends_shown : (x : A) (out' : List B) → Lends (Shows (f x) (g x)) out out' answer' n → Lends (outcome f g (Ok x)) out out' answer' n
  unfolding outcome
  lends_shown x out' l = l

  pub lends_refusal : (e : CdError) → (answer' ≡ figures (Err e)) × (n ≡ get_or answer' 0 0) → Lends (outcome f g (Err e)) out out answer' n
  unfolding outcome fitted lent told figures
  lends_refusal e t = record { slice = refl; answer = t.0; returned = t.1 }

  -- what is told of a refusal does not matter
  pub lends_told : (r : Result A CdError) (fs : List ℕ) (out' : List B) → ((x : A) → r ≡ Ok x → fs ≡ f x) → Lends (outcome (λ x. fs) g r) out out' answer' n → Lends (outcome f g r) out out' answer' n
  unfolding outcome
  lends_told (Ok x) fs out' h l = subst (λ us. Lends (Shows us (g x)) out out' answer' n) (h x refl) l
  lends_told (Err e) fs out' h l = l

-- what a call with room enough has told, returned and shown
module _ {A : Type 0} {o : Outcome A} {fs : List ℕ} {xs out out' : List A} {answer' : List ℕ} {r : ℕ} (l : Lends o out out' answer' r) (is : o ≡ Shows fs xs) (room : length xs ≤ length out) where
  fits : fitted (length out) o ≡ Shows fs xs
  unfolding fitted
  fits = rw (is, le-ltb (length out) (length xs) room)

  pub shown_told : answer' ≡ padded 0 4 (0 ∷ fs)
  unfolding told
  shown_told = l.answer ∙ ap told fits

  pub shown_returned : r ≡ 0
  unfolding padded
  shown_returned = l.returned ∙ ap (λ z. get_or z 0 0) shown_told

  pub shown_at : (k : ℕ) (d : A) → k < length xs → get_or out' k d ≡ get_or xs k d
  unfolding lent
  shown_at k d h =
      ap (λ z. get_or z k d) (l.slice ∙ ap (λ p. lent p out) fits ∙ sets-eq xs out 0 (omega arith))
      ∙ get_or-append xs (drop (0 + length xs) out) d k h

-- of the same thing, told in two ways
pub lends_same : {A B : Type 0} (of : B → Outcome A) {x y : B} {out out' : List A} {answer' : List ℕ} {r : ℕ} → x ≡ y → Lends (of x) out out' answer' r
    → Lends (of y) out out' answer' r
lends_same of {out = out} {out' = out'} {answer' = answer'} {r = r} e l = subst (λ z. Lends (of z) out out' answer' r) e l

-- ---- how long a diagram's numbers are

pub nodes_long : (ps : List Place) → length (flat node_numbers ps) ≡ 2 * length ps
unfolding node_numbers
nodes_long ps = flat_length node_numbers 2 (λ p. refl) ps

pub pairs_long : (ps : List Pair) → length (flat pair_numbers ps) ≡ 3 * length ps
unfolding pair_numbers
pairs_long ps = flat_length pair_numbers 3 (λ p. refl) ps

-- the nodes' values have bits, whatever stands for a node past them
pub numbers_all : (ps : List Place) → length ps ≡ limit → Numbers ps → All (λ (p : Place). IsNumber p.node) ps
numbers_all ps e h = λ k d l. subst (λ (p : Place). IsNumber p.node) (get_or_default ps k (place Unringed) d l) (h k (omega arith))

pub numbers_long : (cd : Cd) → length (numbers_of cd) ≡ 2 * length cd.nodes + 3 * length cd.pairs
unfolding numbers_of
numbers_long cd = length-append (flat node_numbers cd.nodes) (flat pair_numbers cd.pairs) ∙ omega (arith, nodes_long cd.nodes, pairs_long cd.pairs)

-- ---- a diagram and the components of groups, each stored in two parts

module _ (cd : Cd) (nodes : length cd.nodes ≡ limit) (out m : List ℕ) (room : length (numbers_of cd) ≤ length out) where
  pub nodes_room : length (flat node_numbers cd.nodes) ≤ length out
  nodes_room = omega (arith, room, numbers_long cd, nodes_long cd.nodes)

  module _ (stored : m ≡ sets out 0 (flat node_numbers cd.nodes)) where
    long : length m ≡ length out
    long = ap length stored ∙ length-sets out 0 (flat node_numbers cd.nodes)

    pub behind_nodes : 2 * limit ≤ length m
    behind_nodes = omega (arith, room, numbers_long cd, nodes, long)

    pub pairs_room : length (flat pair_numbers cd.pairs) ≤ length (mid_of (2 * limit) (length m - 2 * limit) m)
    pairs_room =
        let rest : length (drop (2 * limit) m) ≡ length m - 2 * limit = length-drop (2 * limit) m in
        omega (arith, room, numbers_long cd, pairs_long cd.pairs, nodes, long, behind_nodes, length-take-le (length m - 2 * limit) (drop (2 * limit) m) (omega arith))

    pub diagram_stored : (n : List ℕ) → n ≡ sets (mid_of (2 * limit) (length m - 2 * limit) m) 0 (flat pair_numbers cd.pairs)
        → put_mid (2 * limit) (length m - 2 * limit) m n ≡ sets out 0 (numbers_of cd)
    unfolding numbers_of
    diagram_stored n e =
        sets_then (flat node_numbers cd.nodes) (flat pair_numbers cd.pairs) out m n (2 * limit) (length m - 2 * limit) stored
        (nodes_long cd.nodes ∙ ap (λ k. 2 * k) nodes) e (omega (arith, room, numbers_long cd, pairs_long cd.pairs, nodes, long)) (omega (arith, behind_nodes))

pub group_long : (gs : List Group) → length (flat group_numbers gs) ≡ 4 * length gs
unfolding group_numbers
group_long gs = flat_length group_numbers 4 (λ g. refl) gs

pub names_long : (g : Groups) → length (names_of g) ≡ names_length
unfolding names_of
names_long g = length_padded 0 names_length (flat group_numbers (take g.count g.at))

module _ (g : Groups) (at : length g.at ≡ limit) (few : g.count ≤ limit) (out m : List ℕ) (room : length (names_of g) ≤ length out) where
  group_count : length (flat group_numbers (take g.count g.at)) ≡ 4 * g.count
  group_count = group_long (take g.count g.at) ∙ ap (λ k. 4 * k) (length-take-le g.count g.at (omega arith))

  pub groups_room : length (flat group_numbers (take g.count g.at)) ≤ length out
  groups_room = omega (arith, room, names_long g, group_count)

  module _ (stored : m ≡ sets out 0 (flat group_numbers (take g.count g.at))) where
    pub behind_groups : names_length ≤ length m
    behind_groups = omega (arith, room, names_long g, ap length stored ∙ length-sets out 0 (flat group_numbers (take g.count g.at)))

    pub names_stored : (n : List ℕ) → n ≡ replicate (names_length - 4 * g.count) 0 → put_mid (4 * g.count) (names_length - 4 * g.count) m n ≡ sets out 0 (names_of g)
    unfolding names_of
    names_stored n e =
        let zeros : List ℕ = replicate (names_length - 4 * g.count) 0 in
        let rest : names_of g ≡ flat group_numbers (take g.count g.at) ++ zeros =
        padded_rest 0 names_length (flat group_numbers (take g.count g.at)) (omega (arith, group_count)) ∙ ap (λ k. flat group_numbers (take g.count g.at) ++ replicate (names_length - k) 0) group_count in
        ap (put_mid (4 * g.count) (names_length - 4 * g.count) m) e
        ∙ sets_whole m zeros (4 * g.count) (names_length - 4 * g.count) (length-replicate (names_length - 4 * g.count) 0) (omega (arith, behind_groups))
        ∙ ap₂ (λ z k. sets z k zeros) stored (sym (zero-add (4 * g.count)))
        ∙ sets_behind out (flat group_numbers (take g.count g.at)) zeros 0 (4 * g.count) group_count
        ∙ ap (sets out 0) (sym rest)
