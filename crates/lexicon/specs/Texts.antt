-- Document 01, "Texts to try", as one list: the entries marked "Proved" and the "Others", in the order of the paper, then the texts of `cdlist`'s example
-- that are not among them, then texts of document 02's K2 and K6. Only K6's are read with the wish too. proofs/TextsRight.antt proves each.
use Rattle.std.specs.Prelude.{ℕ, Bool, true, false, List, [], ◌∷◌, ◌++◌, ◌≡◌, replicate}
use Prim.Native.String.{String}
use Rattle.std.proofs.Math.Option.{Option, none, some}
use Rattle.std.specs.Float.{inf}
use Rattle.std.specs.Float.Ieee.{neg}
use Rattle.float.specs.Numbers.{whole}
use Rattle.cd.specs.Diagrams.{Stored, limit}
use Rattle.cd.specs.Refusals.{number_of}
use Rattle.cd.specs.declared.Node.{Node}
use Rattle.cd.specs.declared.Node.TheVariants.{Unringed, Ringed}
use Rattle.filing.specs.Records.{record_length, IsRecord}
use Rattle.parse.specs.Reading.{Reading, Accepted, Refused, read}
use Rattle.scan.specs.Ascii.{ascii}
use Rattle.tables.specs.Diagrams.{diagram}
use Rattle.lexicon.specs.Answers.{answer_of}
use Rattle.lexicon.specs.Reads.{Marks}

-- ---- an entry, and when it is right

-- a diagram's nodes and stored edges, or a refusal's number and fields
pub data Shown : Type 0 where
  ok : List Node → List Stored → Shown
  no : List ℕ → Shown

unfoldable pub shown : Reading → Shown
unfolding number_of
shown (Accepted ns es) = ok ns es
shown (Refused r) = no (number_of r)

-- a text, whether infinite lengths are wished, what its reading shows, its minimal mark, `cdlist`'s line but for the LF, and its record where document 01 tells it
pub record Entry : Type 0 where
  pub text : String
  pub wish : Bool
  pub gives : Shown
  pub minimal : Bool
  pub line : String
  pub bytes : Option (List ℕ)

-- the bytes, where they are told, are the diagram's record
abbrev pub FiledAs : Option (List ℕ) → Shown → Type 0
FiledAs none s = Unit
FiledAs (some bs) (ok ns es) = IsRecord limit (diagram ns es) bs
FiledAs (some bs) (no fields) = ⊥

pub record RightEntry (e : Entry) : Type 0 where
  pub reading : shown (read e.wish (ascii e.text)) ≡ e.gives
  pub mark : Marks (read e.wish (ascii e.text)) e.minimal
  pub line : answer_of (read e.wish (ascii e.text)) e.minimal ≡ ascii e.line
  pub filed : FiledAs e.bytes e.gives

-- ---- short names

abbrev accepted : String → List Node → List Stored → Bool → String → Entry
accepted text ns es minimal line = record { text = text; wish = false; gives = ok ns es; minimal = minimal; line = line; bytes = none }

abbrev filed : String → List Node → List Stored → Bool → String → List ℕ → Entry
filed text ns es minimal line bytes = record { text = text; wish = false; gives = ok ns es; minimal = minimal; line = line; bytes = some bytes }

abbrev refused : String → List ℕ → String → Entry
refused text fields line = record { text = text; wish = false; gives = no fields; minimal = false; line = line; bytes = none }

-- the same with the wish
abbrev wished : Entry → Entry
wished e = record { text = e.text; wish = true; gives = e.gives; minimal = e.minimal; line = e.line; bytes = e.bytes }

abbrev x : Node
x = Ringed (whole 1)

abbrev o : Node
o = Unringed

-- the edge num/den between nodes i and j
abbrev edge : ℕ → ℕ → ℕ → ℕ → Stored
edge i j num den = record { first = i; other = j; edge = record { num = num; den = den } }

abbrev zeros : ℕ → List ℕ
zeros n = replicate n 0

-- "02, 01 and eight 00, 02 3F F0 and six 00, 63 zeros, 00 00 00 04 00 00 00 01, 280 zeros": the record of o and x joined by num/1, 04 being num
abbrev joined : ℕ → List ℕ
joined num = 0x02 ∷ 0x01 ∷ zeros 8 ++ 0x02 ∷ 0x3F ∷ 0xF0 ∷ zeros 6 ++ zeros 63 ++ 0x00 ∷ 0x00 ∷ 0x00 ∷ num ∷ 0x00 ∷ 0x00 ∷ 0x00 ∷ 0x01 ∷ zeros 280

-- the record of one ringed node, by the first two bytes of its value, the others being zeros
abbrev alone : ℕ → ℕ → List ℕ
alone first second = 0x01 ∷ 0x02 ∷ first ∷ second ∷ zeros 6 ++ zeros 360

-- ---- the list

unfoldable pub texts : List Entry
unfolding whole neg
texts =
    -- "Proved, as entries of one checked list: empty 4 at 0": a refusal's number, then its fields
    refused "" (4 ∷ 0 ∷ []) "no 4 0" ∷
    -- "zero nodes, record all zeros"
    filed "*a" [] [] true "ok 0 0 1" (zeros (record_length limit)) ∷
    -- "keeps 3/2"
    accepted "x5/3/2o" (x ∷ o ∷ []) (edge 0 1 3 2 ∷ []) true "ok 2 1 1" ∷
    -- "no edge"
    accepted "x4/2o" (x ∷ o ∷ []) [] false "ok 2 0 0" ∷
    -- "one node"
    accepted "x2*c" (x ∷ []) [] true "ok 1 0 1" ∷
    -- "11, edge 0"
    refused "x3*c" (11 ∷ 0 ∷ []) "no 11 0" ∷
    refused "x3/o" (5 ∷ 2 ∷ []) "no 5 2" ∷
    refused "x3" (4 ∷ 2 ∷ []) "no 4 2" ∷
    refused "x " (4 ∷ 2 ∷ []) "no 4 2" ∷
    refused "(" (3 ∷ 1 ∷ []) "no 3 1" ∷
    refused "()" (5 ∷ 1 ∷ []) "no 5 1" ∷
    refused "(nan)" (6 ∷ 3 ∷ []) "no 6 3" ∷
    refused "x3_" (6 ∷ 2 ∷ []) "no 6 2" ∷
    refused "x4294967296o" (5 ∷ 10 ∷ []) "no 5 10" ∷
    -- "nine `o` accepted, ten 10 at 9"
    accepted "ooooooooo" (replicate 9 o) [] false "ok 9 0 0" ∷
    refused "oooooooooo" (10 ∷ 9 ∷ []) "no 10 9" ∷
    -- "Others: `x4o` and `o4x` file as" `joined` says
    filed "x4o" (x ∷ o ∷ []) (edge 0 1 4 1 ∷ []) true "ok 2 1 1" (joined 0x04) ∷
    filed "o4x" (o ∷ x ∷ []) (edge 0 1 4 1 ∷ []) true "ok 2 1 1" (joined 0x04) ∷
    -- "`x6/2o` files as `x3o`"; K2: its edge is kept as 3
    filed "x6/2o" (x ∷ o ∷ []) (edge 0 1 3 1 ∷ []) true "ok 2 1 1" (joined 0x03) ∷
    filed "x3o" (x ∷ o ∷ []) (edge 0 1 3 1 ∷ []) true "ok 2 1 1" (joined 0x03) ∷
    -- "`(0)` and `(-0)` differ": by the sign, the first bit of the value
    filed "(0)" (Ringed (whole 0) ∷ []) [] true "ok 1 0 1" (alone 0x00 0x00) ∷
    filed "(-0)" (Ringed (neg (whole 0)) ∷ []) [] true "ok 1 0 1" (alone 0x80 0x00) ∷
    -- the rest of `cdlist`'s example
    accepted "x4o3o" (x ∷ o ∷ o ∷ []) (edge 0 1 4 1 ∷ edge 1 2 3 1 ∷ []) true "ok 3 2 1" ∷
    accepted "x3*a" (x ∷ []) (edge 0 0 3 1 ∷ []) true "ok 1 1 1" ∷
    refused "x1o" (7 ∷ 1 ∷ 1 ∷ 1 ∷ []) "no 7 1 1 1" ∷
    refused "x3o3*a" (8 ∷ 1 ∷ 0 ∷ []) "no 8 1 0" ∷
    -- K2: "Refusal 7 still shows the numbers as typed."
    refused "x4/6o" (7 ∷ 4 ∷ 6 ∷ 3 ∷ []) "no 7 4 6 3" ∷
    -- K6: "It refuses an infinite literal read without the wish (23, its last byte), where nan gives 6"
    refused "(inf)" (23 ∷ 3 ∷ []) "no 23 3" ∷
    refused "(-Infinity)" (23 ∷ 9 ∷ []) "no 23 9" ∷
    wished (refused "(nan)" (6 ∷ 3 ∷ []) "no 6 3") ∷
    -- an edge's fault before it comes first; a tenth node counts only if it is read without fault
    refused "x1(inf)" (7 ∷ 1 ∷ 1 ∷ 1 ∷ []) "no 7 1 1 1" ∷
    refused "ooooooooo(inf)" (23 ∷ 12 ∷ []) "no 23 12" ∷
    wished (refused "ooooooooo(inf)" (10 ∷ 9 ∷ []) "no 10 9") ∷
    -- "With the wish, everything 01 says of infinity holds"
    wished (filed "(inf)" (Ringed (inf false) ∷ []) [] true "ok 1 0 1" (alone 0x7F 0xF0)) ∷
    wished (filed "(-Infinity)" (Ringed (inf true) ∷ []) [] true "ok 1 0 1" (alone 0xFF 0xF0)) ∷
    []
