-- The promise of `bisect`, for every file: what bisection finds in it, without 19. On a shelf that is what `find` answers (proofs/Bisected.antt).
use Rattle.std.specs.Prelude.{true, false, List, ◌≡◌, ℕ, suc, ◌+◌, ◌-◌, ◌*◌, ◌/◌, ◌≤◌, ◌<◌, length, Result, Err}
use Rattle.cd.specs.declared.CdError.{CdError}
use Rattle.cd.specs.declared.CdError.TheVariants.{ShelfLength}
use Rattle.filing.specs.Bytes.{◌≼◌}
use Rattle.filing.specs.Readable.{Readable}
use Rattle.filing.specs.Records.{record_length}
use Rattle.parse.specs.Reading.{Refused}
use Rattle.readback.specs.ReadBack.{ReadBack}
use Rattle.shelf.specs.Checks.{NoMultiple}
use Rattle.shelf.specs.Finds.{found_at}
use Rattle.shelf.specs.Shelves.{◌≺◌, place_at, Present}
use Rattle.shelf.specs.declared.Found.{Found}

abbrev pub middle : ℕ → ℕ → ℕ
middle low high = low + (high - low) / 2

-- among the places from low up to high, x is looked for up to the middle one if it is no greater than that, else behind it, until none is left: at p
pub data Bisection (N : ℕ) (l x : List ℕ) : ℕ → ℕ → ℕ → Type 0 where
  none_left : {low high : ℕ} → high ≤ low → Bisection N l x low high low
  in_front : {low high p : ℕ} → low < high → x ≼ place_at (record_length N) l (middle low high) → Bisection N l x low (middle low high) p → Bisection N l x low high p
  behind : {low high p : ℕ} → low < high → place_at (record_length N) l (middle low high) ≺ x → Bisection N l x (suc (middle low high)) high p → Bisection N l x low high p

-- the record can be read, the file has n places, and bisection among them ends at p
pub record Bisected (N : ℕ) (file x : List ℕ) (n p : ℕ) : Type 0 where
  pub readable : Readable N x
  pub whole : length file ≡ record_length N * n
  pub ends : Bisection N file x 0 n p

-- whether the record is at the place where bisection ends, and that place, or what refuses it
pub data Bisects (N : ℕ) (file x : List ℕ) (r : Result Found CdError) : Type 0 where
  unread : {e : CdError} → ReadBack N x (Refused e) → r ≡ Err e → Bisects N file x r
  no_multiple : Readable N x → NoMultiple N file → r ≡ Err ShelfLength → Bisects N file x r
  met : {n p : ℕ} → Bisected N file x n p → Present N file n x p → r ≡ found_at true p → Bisects N file x r
  missed : {n p : ℕ} → Bisected N file x n p → (Present N file n x p → ⊥) → r ≡ found_at false p → Bisects N file x r
