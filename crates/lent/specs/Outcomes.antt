-- Document 01, "What each operation refuses": "A refusal gives its number and the fields named, no value, and leaves an output buffer untouched." and "In every
-- call, an output buffer keeps its bytes past what was written." For C a call writes to a lent slice, and its answer is four numbers.
use Rattle.std.specs.Prelude.{List, [], ◌∷◌, ◌≡◌, ℕ, ltb, length, get_or, Result, Ok, Err}
use Rattle.std.proofs.lemmas.List.Edits.{sets}
use Rattle.float.specs.Pick.{pick}
use Rattle.cd.specs.Arrays.{padded}
use Rattle.cd.specs.Refusals.{number_of}
use Rattle.cd.specs.declared.CdError.{CdError}
use Rattle.cd.specs.declared.CdError.TheVariants.{ShortBuffer}

-- what a call tells and shows, or what refuses it
pub data Outcome (A : Type 0) : Type 0 where
  Shows : List ℕ → List A → Outcome A
  Refuses : CdError → Outcome A

-- of an answer, what told and shown give of it
unfoldable pub outcome : {A B : Type 0} → (A → List ℕ) → (A → List B) → Result A CdError → Outcome B
outcome told shown (Ok x) = Shows (told x) (shown x)
outcome told shown (Err e) = Refuses e

-- "12, a buffer shorter than" what is shown: of a slice of n elements, after all other refusals
unfoldable pub fitted : {A : Type 0} → ℕ → Outcome A → Outcome A
fitted n (Shows fs xs) = pick (ltb n (length xs)) (Refuses ShortBuffer) (Shows fs xs)
fitted n (Refuses e) = Refuses e

-- the slice afterwards
unfoldable pub lent : {A : Type 0} → Outcome A → List A → List A
lent (Shows fs xs) out = sets out 0 xs
lent (Refuses e) out = out

-- the four numbers: 0 and what is told, or the refusal's number and fields; then zeros
unfoldable pub told : {A : Type 0} → Outcome A → List ℕ
unfolding padded number_of
told (Shows fs xs) = padded 0 4 (0 ∷ fs)
told (Refuses e) = padded 0 4 (number_of e)

-- the four numbers of three fields, or of a refusal
unfoldable pub figures : Result (ℕ × ℕ × ℕ) CdError → List ℕ
unfolding padded number_of
figures (Ok (a, b, c)) = 0 ∷ a ∷ b ∷ c ∷ []
figures (Err e) = padded 0 4 (number_of e)

-- of a slice before and after, the four numbers afterwards, and the number returned
pub record Lends {A : Type 0} (o : Outcome A) (out out' : List A) (answer' : List ℕ) (r : ℕ) : Type 0 where
  pub slice : out' ≡ lent (fitted (length out) o) out
  pub answer : answer' ≡ told (fitted (length out) o)
  pub returned : r ≡ get_or answer' 0 0
