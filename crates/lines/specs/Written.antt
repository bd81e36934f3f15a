-- What a function that adds to the answers that wait asks and promises.
use Rattle.std.specs.Prelude.{ℕ, ◌+◌, ◌≤◌, List}
use Rattle.arrayvec.specs.ArrayVec.{ArrayVec, Extends, array_vec_len}

-- n more bytes may wait where `room` of them may in all
abbrev pub HasRoomOf : ℕ → ℕ → ArrayVec ℕ → Type 0
HasRoomOf room n out = array_vec_len out + n ≤ room

-- n more bytes may wait among the programs' answers
abbrev pub HasRoom : ℕ → ArrayVec ℕ → Type 0
HasRoom n out = HasRoomOf 16384 n out

-- half of that room is left, or more
abbrev pub HasHalf : ArrayVec ℕ → Type 0
HasHalf out = array_vec_len out ≤ 8192

-- n more bytes wait, or fewer
abbrev pub AddsAtMost : ℕ → ArrayVec ℕ → ArrayVec ℕ → Type 0
AddsAtMost n before after = array_vec_len after ≤ array_vec_len before + n

-- bytes that `Line` allows of the text are added
pub record AddsLine (Line : List ℕ → List ℕ → Type 0) (text : List ℕ) (before after : ArrayVec ℕ) : Type 0 where
  pub bytes : List ℕ
  pub allowed : Line text bytes
  pub added : Extends before bytes after
