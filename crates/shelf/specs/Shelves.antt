-- Document 02, ticket K1: "Editors want the filing records of all articles in one file: records of 370 bytes, no header, each greater in byte order than the one
-- before." N is the limit of nodes: a place has `record_length N` bytes, 370 for 9.
use Rattle.std.specs.Prelude.{List, ◌++◌, ◌≡◌, ℕ, suc, ◌*◌, ◌≤◌, ◌<◌, length, take, drop}
use Rattle.filing.specs.Bytes.{◌≼◌}
use Rattle.filing.specs.Readable.{Readable}
use Rattle.filing.specs.Records.{record_length}

-- "greater in byte order": y is greater than x where it is not no greater than x
infix 50 ◌≺◌
abbrev pub ◌≺◌ : List ℕ → List ℕ → Type 0
x ≺ y = y ≼ x → ⊥

-- the bytes at place i, "(from 0)", of a file whose places have w bytes
unfoldable pub place_at : ℕ → List ℕ → ℕ → List ℕ
place_at w l i = take w (drop (w * i) l)

-- ---- which files are shelves

-- place i is greater than the place before it, if there is one
abbrev pub Greater : ℕ → List ℕ → ℕ → Type 0
Greater N l i = (j : ℕ) → suc j ≡ i → place_at (record_length N) l j ≺ place_at (record_length N) l i

-- place i can be read, and is greater than the place before it
pub record Right (N : ℕ) (l : List ℕ) (i : ℕ) : Type 0 where
  pub readable : Readable N (place_at (record_length N) l i)
  pub greater : Greater N l i

abbrev pub RightTo : ℕ → List ℕ → ℕ → Type 0
RightTo N l n = (i : ℕ) → i < n → Right N l i

-- a shelf of n places, no byte besides, and each of them right
pub record Shelf (N : ℕ) (l : List ℕ) (n : ℕ) : Type 0 where
  pub whole : length l ≡ record_length N * n
  pub right : RightTo N l n

-- ---- where a record is on a shelf, or would be

-- x is at place p of n places
pub record Present (N : ℕ) (l : List ℕ) (n : ℕ) (x : List ℕ) (p : ℕ) : Type 0 where
  pub inside : p < n
  pub here : place_at (record_length N) l p ≡ x

-- x is at none of n places: those before place p are less than x, and the others are greater
pub record Absent (N : ℕ) (l : List ℕ) (n : ℕ) (x : List ℕ) (p : ℕ) : Type 0 where
  pub inside : p ≤ n
  pub before : (i : ℕ) → i < p → place_at (record_length N) l i ≺ x
  pub after : (i : ℕ) → p ≤ i → i < n → x ≺ place_at (record_length N) l i

-- ---- "the file with one record added"

-- x between the places before p and the others, whose places have w bytes
unfoldable pub inserted : ℕ → List ℕ → ℕ → List ℕ → List ℕ
inserted w l p x = take (w * p) l ++ (x ++ drop (w * p) l)
