-- The promise of `rescue`. Document 02, ticket K12: "A rescue call goes through the file by 370-byte places and copies to a second buffer each record that can be read
-- and is greater than the last one copied. A third buffer gets one byte for every place". N is the limit of nodes: a place has `record_length N` bytes, 370 for 9.
use Rattle.std.specs.Prelude.{Bool, List, [], ◌⊎◌, ◌≡◌, ℕ, zero, suc, ◌+◌, ◌*◌, ◌≤◌, ◌<◌, eqb, length, get_or, Result, Ok, Err}
use Rattle.float.specs.Pick.{pick}
use Rattle.cd.specs.Refusals.{number_of}
use Rattle.cd.specs.declared.CdError.{CdError}
use Rattle.cd.specs.declared.CdError.TheVariants.{ShortBuffer}
use Rattle.filing.specs.Bytes.{◌≼◌, blocks, written}
use Rattle.filing.specs.Counts.{count}
use Rattle.filing.specs.Readable.{Readable}
use Rattle.filing.specs.Records.{record_length}
use Rattle.parse.specs.Reading.{Refused}
use Rattle.readback.specs.ReadBack.{ReadBack}
use Rattle.shelf.specs.Shelves.{◌≺◌, place_at}
use Rattle.shelf_rescue.specs.declared.Rescued.{Rescued}

-- a file of n places and "a tail of fewer than 370 bytes", t of them
pub record Cut (N : ℕ) (file : List ℕ) (n t : ℕ) : Type 0 where
  pub long : length file ≡ record_length N * n + t
  pub few : t < record_length N

-- ---- what is copied, by the places' marks ms

-- "0 for kept": whether place i is kept
abbrev pub is_kept : List ℕ → ℕ → Bool
is_kept ms i = eqb (get_or ms i 0) 0

-- "the last one copied" before place i, a place having w bytes; no bytes as long as none is
unfoldable pub last_copied : ℕ → List ℕ → List ℕ → ℕ → List ℕ
last_copied w file ms zero = []
last_copied w file ms (suc i) = let before = last_copied w file ms i in pick (is_kept ms i) (place_at w file i) before

-- all that are copied of the first n places, end to end
abbrev pub copied : ℕ → List ℕ → List ℕ → ℕ → List ℕ
copied w file ms n = blocks (λ i. pick (is_kept ms i) (place_at w file i) []) n

-- ---- the marks

-- "0 for kept, 1 for readable but out of order, else the number with which reading refuses it": the mark of a place x, after the last one copied
pub data Mark (N : ℕ) (last x : List ℕ) : ℕ → Type 0 where
  kept : Readable N x → last ≺ x → Mark N last x 0
  out_of_order : Readable N x → x ≼ last → Mark N last x 1
  unread : {e : CdError} → ReadBack N x (Refused e) → Mark N last x (get_or (number_of e) 0 0)

-- "one byte for every place", of n places
pub record Marked (N : ℕ) (file : List ℕ) (n : ℕ) (ms : List ℕ) : Type 0 where
  pub one_each : length ms ≡ n
  pub each : (i : ℕ) → i < n → Mark N (last_copied (record_length N) file ms i) (place_at (record_length N) file i) (get_or ms i 0)

-- ---- the answer

-- of a file, and two buffers before and after the call: "A second buffer shorter than the file, or a third with fewer bytes than places, gets 12"; else "The result
-- gives the places kept and the length of a tail", and "Bytes past the kept records, and past the last place's mark, stay."
pub data Rescues (N : ℕ) (file out marks out' marks' : List ℕ) (r : Result Rescued CdError) : Type 0 where
  short : {n t : ℕ} → Cut N file n t → (length out < length file) ⊎ (length marks < n) → r ≡ Err ShortBuffer → out' ≡ out → marks' ≡ marks
      → Rescues N file out marks out' marks' r
  rescued : {n t : ℕ} {ms : List ℕ} → Cut N file n t → length file ≤ length out → n ≤ length marks → Marked N file n ms
      → r ≡ Ok (record { kept = count (is_kept ms) n; tail = t })
      → out' ≡ written 0 (copied (record_length N) file ms n) out → marks' ≡ written 0 ms marks → Rescues N file out marks out' marks' r
