-- The promise of `add`. Document 02, ticket K1: "a third writes the file with one record added to a second buffer"; "adding then refuses a record already on the
-- shelf (20, its place)"; "A buffer too short is 12 here too, last of all." Document 01: "A refusal .. leaves an output buffer untouched", and "In every call, an
-- output buffer keeps its bytes past what was written."
use Rattle.std.specs.Prelude.{List, ◌++◌, ◌≡◌, ℕ, ◌+◌, ◌≤◌, ◌<◌, length, drop, Result, Ok, Err}
use Rattle.cd.specs.declared.CdError.{CdError}
use Rattle.cd.specs.declared.CdError.TheVariants.{ShortBuffer, OnShelf}
use Rattle.filing.specs.Records.{record_length}
use Rattle.shelf.specs.Finds.{Refuses, Sound}
use Rattle.shelf.specs.Shelves.{Present, Absent, inserted}

-- how many bytes the file has with one record added
abbrev pub added_length : ℕ → List ℕ → ℕ
added_length N file = length file + record_length N

-- of a file, a record, and a buffer before and after the call, the answer: the place of the new record, or what refuses it
pub data Adds (N : ℕ) (file x out out' : List ℕ) (r : Result ℕ CdError) : Type 0 where
  refused : {e : CdError} → Refuses N file x e → r ≡ Err e → out' ≡ out → Adds N file x out out' r
  present : {n p : ℕ} → Sound N file x n → Present N file n x p → r ≡ Err (OnShelf p) → out' ≡ out → Adds N file x out out' r
  short : {n p : ℕ} → Sound N file x n → Absent N file n x p → length out < added_length N file → r ≡ Err ShortBuffer → out' ≡ out → Adds N file x out out' r
  added : {n p : ℕ} → Sound N file x n → Absent N file n x p → added_length N file ≤ length out → r ≡ Ok p
      → out' ≡ inserted (record_length N) file p x ++ drop (added_length N file) out → Adds N file x out out' r
