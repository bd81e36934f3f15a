-- The promises of the calls whose promises in Rattle are more than an equation: some answer that `lexicon`, `lexicon_names`, `shelf` or `shelf_rescue` promises is what is
-- told and shown.
use Rattle.std.specs.Prelude.{Bool, not, List, [], ◌∷◌, ◌≡◌, ℕ, eqb, get_or, Result, Ok, Err}
use Rattle.float.specs.Pick.{pick}
use Rattle.cd.specs.Diagrams.{limit}
use Rattle.cd.specs.declared.Cd.{Cd}
use Rattle.cd.specs.declared.CdError.{CdError}
use Rattle.group_names.specs.declared.Groups.{Groups}
use Rattle.lexicon.specs.Files.{Files}
use Rattle.lexicon.specs.Reads.{Reads}
use Rattle.lexicon.specs.ReadsRecord.{ReadsRecord}
use Rattle.lexicon.specs.declared.Filed.{Filed}
use Rattle.lexicon.specs.declared.Reading.{Reading}
use Rattle.lexicon_names.specs.NamesText.{NamesText}
use Rattle.shelf.specs.Adds.{Adds}
use Rattle.shelf.specs.Bisects.{Bisects}
use Rattle.shelf.specs.Checks.{Checks}
use Rattle.shelf.specs.Finds.{Finds}
use Rattle.shelf.specs.declared.Found.{Found}
use Rattle.shelf_rescue.specs.Rescues.{Rescues}
use Rattle.shelf_rescue.specs.declared.Rescued.{Rescued}
use Rattle.lent.specs.Outcomes.{outcome, told, Lends}
use Rattle.lent.specs.Shown.{of_reading, of_record, of_groups}

-- the wish for infinite lengths as a number: 0 without it, any other with it
abbrev pub wished : ℕ → Bool
wished n = not (eqb n 0)

pub record ReadsForC (wish : Bool) (text out out' answer' : List ℕ) (r : ℕ) : Type 0 where
  pub reading : Result Reading CdError
  pub reads : Reads wish text reading
  pub lends : Lends (of_reading reading) out out' answer' r

pub record ReadsRecordForC (bytes out out' answer' : List ℕ) (r : ℕ) : Type 0 where
  pub read : Result Cd CdError
  pub reads : ReadsRecord bytes read
  pub lends : Lends (of_record read) out out' answer' r

pub record NamesForC (wish : Bool) (text out out' answer' : List ℕ) (r : ℕ) : Type 0 where
  pub groups : Result Groups CdError
  pub names : NamesText wish text groups
  pub lends : Lends (of_groups groups) out out' answer' r

-- a numbering that an answer replaces and a refusal leaves
unfoldable pub replaced : Result Filed CdError → List ℕ → List ℕ
replaced (Ok f) old = f.numbering
replaced (Err e) old = old

-- what is told of an answer, or of a refusal: the four numbers, and the first of them returned
pub record Tells {A : Type 0} (fields : A → List ℕ) (a : Result A CdError) (answer' : List ℕ) (r : ℕ) : Type 0 where
  pub answer : answer' ≡ told (outcome {B = ℕ} fields (λ x. []) a)
  pub returned : r ≡ get_or answer' 0 0

-- `Files` says what the buffer holds afterwards
pub record FilesForC (wish : Bool) (text out out' numbering numbering' answer' : List ℕ) (r : ℕ) : Type 0 where
  pub filed : Result Filed CdError
  pub files : Files wish text out out' filed
  pub nodes : numbering' ≡ replaced filed numbering
  pub tells : Tells (λ (f : Filed). f.count ∷ []) filed answer' r

-- ---- shelf files

-- the number of places
pub record ChecksForC (file answer' : List ℕ) (r : ℕ) : Type 0 where
  pub checked : Result ℕ CdError
  pub checks : Checks limit file checked
  pub tells : Tells (λ n. n ∷ []) checked answer' r

-- 1 or 0, and the place
abbrev pub found_numbers : Found → List ℕ
found_numbers f = pick f.present 1 0 ∷ f.place ∷ []

pub record FindsForC (file bytes answer' : List ℕ) (r : ℕ) : Type 0 where
  pub found : Result Found CdError
  pub finds : Finds limit file bytes found
  pub tells : Tells found_numbers found answer' r

pub record BisectsForC (file bytes answer' : List ℕ) (r : ℕ) : Type 0 where
  pub found : Result Found CdError
  pub bisects : Bisects limit file bytes found
  pub tells : Tells found_numbers found answer' r

-- the place of the new record; `Adds` says what the buffer holds afterwards
pub record AddsForC (file bytes out out' answer' : List ℕ) (r : ℕ) : Type 0 where
  pub added : Result ℕ CdError
  pub adds : Adds limit file bytes out out' added
  pub tells : Tells (λ p. p ∷ []) added answer' r

-- the places kept, and the length of the tail; `Rescues` says what the two buffers hold afterwards
pub record RescuesForC (file out marks out' marks' answer' : List ℕ) (r : ℕ) : Type 0 where
  pub rescued : Result Rescued CdError
  pub rescues : Rescues limit file out marks out' marks' rescued
  pub tells : Tells (λ (s : Rescued). s.kept ∷ s.tail ∷ []) rescued answer' r
