-- The promise of `find`. Document 02, ticket K1: "a second says whether a record is on the shelf and at which place (from 0)"; "A record to be found or added is
-- read first, with 13 and 14", and with ticket K5 22.
use Rattle.std.specs.Prelude.{Bool, true, false, List, ◌≡◌, ℕ, Result, Ok, Err}
use Rattle.cd.specs.declared.CdError.{CdError}
use Rattle.filing.specs.Readable.{Readable}
use Rattle.parse.specs.Reading.{Refused}
use Rattle.readback.specs.ReadBack.{ReadBack}
use Rattle.shelf.specs.Checks.{Wrong}
use Rattle.shelf.specs.Shelves.{Shelf, Present, Absent}
use Rattle.shelf.specs.declared.Found.{Found}

-- what refuses a file and a record x: what refuses to read the record, then what is wrong with the file
pub data Refuses (N : ℕ) (file x : List ℕ) : CdError → Type 0 where
  unread : {e : CdError} → ReadBack N x (Refused e) → Refuses N file x e
  unsound : {e : CdError} → Readable N x → Wrong N file e → Refuses N file x e

-- the record can be read, and the file is a shelf of n places
pub record Sound (N : ℕ) (file x : List ℕ) (n : ℕ) : Type 0 where
  pub readable : Readable N x
  pub shelf : Shelf N file n

abbrev pub found_at : Bool → ℕ → Result Found CdError
found_at b p = Ok (record { present = b; place = p })

-- the record's place, or the place where it would stand, or what refuses it
pub data Finds (N : ℕ) (file x : List ℕ) (r : Result Found CdError) : Type 0 where
  refused : {e : CdError} → Refuses N file x e → r ≡ Err e → Finds N file x r
  present : {n p : ℕ} → Sound N file x n → Present N file n x p → r ≡ found_at true p → Finds N file x r
  absent : {n p : ℕ} → Sound N file x n → Absent N file n x p → r ≡ found_at false p → Finds N file x r
