-- The promise of `check`. Document 02, ticket K1: "A call checks a lent file"; "Each call refuses a file whose length is no multiple of 370 (18), then the first
-- place that can't be read or isn't greater than the place before it (19, that place)".
use Rattle.std.specs.Prelude.{List, ◌≢◌, ◌≡◌, ℕ, ◌*◌, ◌<◌, length, Result, Ok, Err}
use Rattle.cd.specs.declared.CdError.{CdError}
use Rattle.cd.specs.declared.CdError.TheVariants.{ShelfLength, ShelfPlace}
use Rattle.filing.specs.Records.{record_length}
use Rattle.shelf.specs.Shelves.{Right, RightTo, Shelf}

-- the length is no multiple of a place's
abbrev pub NoMultiple : ℕ → List ℕ → Type 0
NoMultiple N l = (n : ℕ) → length l ≢ record_length N * n

-- what is wrong with a file
pub data Wrong (N : ℕ) (l : List ℕ) : CdError → Type 0 where
  no_multiple : NoMultiple N l → Wrong N l ShelfLength
  first_wrong : {n p : ℕ} → length l ≡ record_length N * n → p < n → RightTo N l p → (Right N l p → ⊥) → Wrong N l (ShelfPlace p)

-- how many places a shelf has, or what is wrong
pub data Checks (N : ℕ) (l : List ℕ) (r : Result ℕ CdError) : Type 0 where
  wrong : {e : CdError} → Wrong N l e → r ≡ Err e → Checks N l r
  right : {n : ℕ} → Shelf N l n → r ≡ Ok n → Checks N l r
