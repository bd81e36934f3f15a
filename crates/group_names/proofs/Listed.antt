-- A list of components has each component once, by its lowest node, with a name that fits it; and since no component gets two names, what is told of a diagram is
-- one thing. Assumes nothing.
use mathlib.Core.List.{List, [], ◌∷◌, ◌++◌}
use mathlib.Core.Logic.{◌≢◌, ◌⊎◌, inl, inr}
use mathlib.Core.Path.{◌≡◌, refl, sym, ap, ap₂, ◌∙◌, subst}
use Prim.Native.Nat.{ℕ, zero, suc, ◌+◌, ◌≤◌, ◌<◌}
use native.Mathlib.Decide.{ℕ_discrete, dec_lt}
use native.Mathlib.Nat.{not-suc-le-zero, le_refl}
use native.Mathlib.Omega.{arith}
use lib.ListN.{length, get_or, length-append, get_or-append}
use lib.Seq.{get_or-append_seam}
use Rattle.std.specs.Prelude.{Result, Ok, Err}
use Rattle.cd.specs.Diagrams.{Stored}
use Rattle.cd.specs.declared.CdError.{CdError}
use Rattle.cd.specs.declared.CdError.TheVariants.{NoName}
use Rattle.tables.specs.Diagrams.{joint}
use Rattle.group_names.specs.Named as naming
use Rattle.group_names.specs.Named.{Named, Nameless, Lowest, Lists, none, passed, listed, Names, blank, group, listing}
use Rattle.group_names.specs.Names.{order}
use Rattle.group_names.specs.declared.Group.{Group}
use Rattle.group_names.specs.declared.Groups.{Groups}
use Rattle.group_names.proofs.OneName.{one_name}

-- ---- a list of components

-- what an entry says
pub record Entry (n : ℕ) (es : List Stored) (k : ℕ) (g : Group) : Type 0 where
  pub below : g.node < k
  pub lowest : Lowest n es g.node
  pub named : Named n es g.node g.name
  pub right : g.order ≡ order g.name

higher : {n : ℕ} {es : List Stored} {k : ℕ} {g : Group} → Entry n es k g → Entry n es (suc k) g
higher e = record { below = omega (arith, e.below); lowest = e.lowest; named = e.named; right = e.right }

-- a place of a list with one more: a place before, or the last
SnocAt : List Group → Group → ℕ → Type 0
SnocAt gs g i = ((i < length gs) × (get_or (gs ++ (g ∷ [])) i blank ≡ get_or gs i blank)) ⊎ ((i ≡ length gs) × (get_or (gs ++ (g ∷ [])) i blank ≡ g))

snoc_length : (gs : List Group) (g : Group) → length (gs ++ (g ∷ [])) ≡ length gs + 1
snoc_length gs g = length-append gs (g ∷ [])

snoc_at : (gs : List Group) (g : Group) (i : ℕ) → i < length (gs ++ (g ∷ [])) → SnocAt gs g i
unfolding SnocAt
snoc_at gs g i h = go (dec_lt i (length gs))
  where
    go : Dec (i < length gs) → SnocAt gs g i
    go (yes l) = inl (l, get_or-append gs (g ∷ []) blank i l)
    go (no l) = let e : i ≡ length gs = omega (arith, snoc_length gs g) in inr (e, ap (λ k. get_or (gs ++ (g ∷ [])) k blank) e ∙ get_or-append_seam gs g [] blank)

module _ {n : ℕ} {es : List Stored} where
  pub lists_short : {k : ℕ} {gs : List Group} → Lists n es k gs → length gs ≤ k
  lists_short none = le_refl 0
  lists_short (passed w o) = omega (arith, lists_short w)
  lists_short (listed {k} {gs} {x} w low d) = omega (arith, snoc_length gs (group k x), lists_short w)

  pub entry_at : {k : ℕ} {gs : List Group} → Lists n es k gs → (i : ℕ) → i < length gs → Entry n es k (get_or gs i blank)
  unfolding SnocAt
  entry_at none i h = absurd (not-suc-le-zero h)
  entry_at (passed w o) i h = higher (entry_at w i h)
  entry_at (listed {k} {gs} {x} w low d) i h = go (snoc_at gs (group k x) i h) (λ l. entry_at w i l)
    where
      go : SnocAt gs (group k x) i → (i < length gs → Entry n es k (get_or gs i blank)) → Entry n es (suc k) (get_or (gs ++ (group k x ∷ [])) i blank)
      go (inl (l, e)) r = subst (Entry n es (suc k)) (sym e) (higher (r l))
      go (inr (l, e)) r = subst (Entry n es (suc k)) (sym e) (record { below = omega arith; lowest = low; named = d; right = refl })

  -- different places have different nodes
  pub entries_apart : {k : ℕ} {gs : List Group} → Lists n es k gs → (i j : ℕ) → i < length gs → j < length gs → (get_or gs i blank).node ≡ (get_or gs j blank).node → i ≡ j
  unfolding SnocAt
  entries_apart none i j h l e = absurd (not-suc-le-zero h)
  entries_apart (passed w o) i j h l e = entries_apart w i j h l e
  entries_apart (listed {k} {gs} {x} w low d) i j h l e = go (snoc_at gs (group k x) i h) (snoc_at gs (group k x) j l) (λ p q z. entries_apart w i j p q z)
    where
      go : SnocAt gs (group k x) i → SnocAt gs (group k x) j → (i < length gs → j < length gs → (get_or gs i blank).node ≡ (get_or gs j blank).node → i ≡ j) → i ≡ j
      go (inl (p, a)) (inl (q, c)) r = r p q (sym (ap (λ (g : Group). g.node) a) ∙ e ∙ ap (λ (g : Group). g.node) c)
      go (inl (p, a)) (inr (q, c)) r =
          let z : (get_or gs i blank).node ≡ k = sym (ap (λ (g : Group). g.node) a) ∙ e ∙ ap (λ (g : Group). g.node) c in
          let o : ⊥ = omega (arith, (entry_at w i p).below) in absurd o
      go (inr (p, a)) (inl (q, c)) r =
          let z : (get_or gs j blank).node ≡ k = sym (ap (λ (g : Group). g.node) c) ∙ sym e ∙ ap (λ (g : Group). g.node) a in
          let o : ⊥ = omega (arith, (entry_at w j q).below) in absurd o
      go (inr (p, a)) (inr (q, c)) r = p ∙ sym q

  -- each component is there
  pub entry_of : {k : ℕ} {gs : List Group} → Lists n es k gs → (c : ℕ) → c < k → Lowest n es c → (i : ℕ) × (i < length gs) × ((get_or gs i blank).node ≡ c)
  entry_of none c h low = absurd (not-suc-le-zero h)
  entry_of (passed {k} {gs} w o) c h low = go (ℕ_discrete c k) (λ l. entry_of w c l low)
    where
      go : Dec (c ≡ k) → (c < k → (i : ℕ) × (i < length gs) × ((get_or gs i blank).node ≡ c)) → (i : ℕ) × (i < length gs) × ((get_or gs i blank).node ≡ c)
      go (yes e) r = absurd (o (subst (Lowest n es) e low))
      go (no e) r = r (omega arith)
  entry_of (listed {k} {gs} {x} w own d) c h low = go (ℕ_discrete c k) (λ l. entry_of w c l low)
    where
      go : Dec (c ≡ k) → (c < k → (i : ℕ) × (i < length gs) × ((get_or gs i blank).node ≡ c)) → (i : ℕ) × (i < length (gs ++ (group k x ∷ []))) × ((get_or (gs ++ (group k x ∷ [])) i blank).node ≡ c)
      go (yes e) r = (length gs, omega (arith, snoc_length gs (group k x)), ap (λ (g : Group). g.node) (get_or-append_seam gs (group k x) [] blank) ∙ sym e)
      go (no e) r =
          let (i, l, z) = r (omega arith) in
          (i, omega (arith, snoc_length gs (group k x)), ap (λ (g : Group). g.node) (get_or-append gs (group k x ∷ []) blank i l) ∙ z)

-- ---- one answer

module _ (n : ℕ) (es : List Stored) (positive : (u v : ℕ) → u < n → v < n → u ≢ v → zero < (joint es u v).den) where
  lists_once : {k : ℕ} {gs hs : List Group} → k ≤ n → Lists n es k gs → Lists n es k hs → gs ≡ hs
  lists_once h none none = refl
  lists_once h (passed w o) (passed v p) = lists_once (omega arith) w v
  lists_once h (passed w o) (listed v low d) = absurd (o low)
  lists_once h (listed w low d) (passed v o) = absurd (o low)
  lists_once h (listed {k} w low d) (listed v low' d') = ap₂ (λ l x. l ++ (group k x ∷ [])) (lists_once (omega arith) w v) (one_name n es k h positive d d')

  -- a component that a list has is not nameless
  listed_named : {k c : ℕ} {gs : List Group} → Lists n es k gs → c < k → Lowest n es c → Nameless n es c → ⊥
  listed_named {gs = gs} w h low not =
      let (i, l, e) = entry_of w _ h low in
      not (get_or gs i blank).name (subst (λ v. Named n es v (get_or gs i blank).name) e (entry_at w i l).named)

  -- WHAT IS TOLD OF A DIAGRAM IS ONE THING
  pub names_once : {r t : Result Groups CdError} → Names n es r → Names n es t → r ≡ t
  names_once (naming.named w e) (naming.named v q) = e ∙ ap (λ gs. Ok (listing gs)) (lists_once (le_refl n) w v) ∙ sym q
  names_once (naming.named w e) (naming.nameless h v low not q) = absurd (listed_named w h low not)
  names_once (naming.nameless h w low not e) (naming.named v q) = absurd (listed_named v h low not)
  names_once (naming.nameless {c} h w low not e) (naming.nameless {c = d} k v low' not' q) =
      elim (dec_lt c d) [
        | yes l ↦ absurd (listed_named v l low not)
        | no l ↦
            elim (dec_lt d c) [
              | yes m ↦ absurd (listed_named w m low' not')
              | no m ↦ (let s : c ≡ d = omega arith in e ∙ ap (λ z. Err (NoName z)) s ∙ sym q)
            ]
      ]
