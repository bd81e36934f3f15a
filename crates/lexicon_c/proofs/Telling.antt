-- What `lent`'s tell stores is what is told of an answer and of a refusal, in one way. Assumes nothing.
use Rattle.std.specs.Prelude.{Result, Ok, Err, MatchResult, IsOkAnd}
use mathlib.Core.List.{List, [], ◌∷◌}
use mathlib.Core.Path.{◌≡◌, refl, sym, ap, ◌∙◌}
use Prim.Native.Nat.{ℕ, ◌<◌}
use native.Mathlib.Omega.{arith}
use lib.ListN.{get_or}
use Rattle.cd.specs.Arrays.{padded}
use Rattle.cd.specs.Refusals.{number_of}
use Rattle.cd.specs.declared.CdError.{CdError}
use Rattle.cd.specs.declared.CdError.TheVariants.{TooLong, NotAscii, MismatchedParenthesis, UnexpectedEnding, ParseError, InvalidSymbol, InvalidEdge, RepeatEdge, OutOfRange, TooManyNodes, MissingNode, ShortBuffer, RecordLength, NoDiagram, Crowded, Infinite, NoFamily, ShelfLength, ShelfPlace, OnShelf, NoName, NotSmallest, InfiniteLength}
use Rattle.lent.specs.Outcomes.{outcome, told, figures}
use Rattle.lexicon_c.specs.Calls.{Tells}

-- the fields made of an answer, as P says
pub tells_mapped : {A : Type 0} {fields : A → List ℕ} {u : List ℕ} {n : ℕ} (P : A → ℕ × ℕ × ℕ → Type 0) (r : Result A CdError) (m : Result (ℕ × ℕ × ℕ) CdError)
    → MatchResult r (λ x. IsOkAnd m (P x)) (λ e. m ≡ Err e) → ((x : A) (y : ℕ × ℕ × ℕ) → P x y → 0 ∷ y.0 ∷ y.1 ∷ y.2 ∷ [] ≡ padded 0 4 (0 ∷ fields x)) → (u ≡ figures m) × (n ≡ get_or u 0 0) → Tells fields r u n
unfolding told outcome figures
tells_mapped P (Ok x) (Ok y) h f t = record { answer = t.0 ∙ f x y h; returned = t.1 }
tells_mapped P (Ok x) (Err e) h f t = absurd h
tells_mapped P (Err e) m h f t = record { answer = t.0 ∙ ap figures h; returned = t.1 }

-- one answer is told in one way
pub tells_once : {A : Type 0} {fields : A → List ℕ} {a b : Result A CdError} {u v : List ℕ} {m n : ℕ} → a ≡ b → Tells fields a u m → Tells fields b v n → (u ≡ v) × (m ≡ n)
tells_once {fields = fields} e t s =
    let same = t.answer ∙ ap (λ x. told (outcome {B = ℕ} fields (λ y. []) x)) e ∙ sym s.answer in
    (same, t.returned ∙ ap (λ z. get_or z 0 0) same ∙ sym s.returned)

-- ---- a call returns 0 exactly for an answer

-- no refusal has the number 0
numbered : (e : CdError) → 0 < get_or (padded 0 4 (number_of e)) 0 0
unfolding padded number_of
numbered (TooLong p) = omega arith
numbered (NotAscii p) = omega arith
numbered (MismatchedParenthesis p) = omega arith
numbered (UnexpectedEnding p) = omega arith
numbered (ParseError p) = omega arith
numbered (InvalidSymbol p) = omega arith
numbered (InvalidEdge n d p) = omega arith
numbered (RepeatEdge a b) = omega arith
numbered (OutOfRange p) = omega arith
numbered (TooManyNodes p) = omega arith
numbered (MissingNode k) = omega arith
numbered ShortBuffer = omega arith
numbered RecordLength = omega arith
numbered NoDiagram = omega arith
numbered (Crowded k) = omega arith
numbered (Infinite k) = omega arith
numbered NoFamily = omega arith
numbered ShelfLength = omega arith
numbered (ShelfPlace p) = omega arith
numbered (OnShelf p) = omega arith
numbered (NoName k) = omega arith
numbered NotSmallest = omega arith
numbered (InfiniteLength p) = omega arith

module _ {A : Type 0} {fields : A → List ℕ} {u : List ℕ} {n : ℕ} where
  by_number : (a : Result A CdError) → Tells fields a u n → n ≡ 0 → (x : A) × (a ≡ Ok x)
  unfolding told outcome
  by_number (Ok x) t z = (x, refl)
  by_number (Err e) t z = let k = sym z ∙ t.returned ∙ ap (λ v. get_or v 0 0) t.answer in absurd (omega (arith, numbered e))

  pub answered_0 : {a : Result A CdError} → Tells fields a u n → n ≡ 0 → (x : A) × (a ≡ Ok x)
  answered_0 = by_number _

  pub answers_0 : {a : Result A CdError} {x : A} → Tells fields a u n → a ≡ Ok x → n ≡ 0
  unfolding told outcome padded
  answers_0 t e = t.returned ∙ ap (λ v. get_or v 0 0) t.answer ∙ ap (λ b. get_or (told (outcome {B = ℕ} fields (λ x. []) b)) 0 0) e
