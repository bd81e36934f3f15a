-- Document 01, "Reading" and "What each operation refuses", Text: what a text is read as. Document 02, K2: the edges kept; K6: the wish.
use Rattle.std.specs.Prelude.{ℕ, ◌+◌, Bool, List, [], ◌∷◌, map, ltb, leb, length, Result, Ok, Err}
use Rattle.float.specs.Pick.{pick}
use Rattle.cd.specs.Diagrams.{Stored, cd_of}
use Rattle.cd.specs.Edges.{reduced}
use Rattle.cd.specs.declared.Cd.{Cd}
use Rattle.cd.specs.declared.CdError.{CdError}
use Rattle.cd.specs.declared.CdError.TheVariants.{TooLong, NotAscii}
use Rattle.cd.specs.declared.Node.{Node}
use Rattle.parse.specs.Text.{Outcome, text_from}
use Rattle.parse.specs.Text as text
use Rattle.parse.specs.Joining.{Joined, join_all}
use Rattle.parse.specs.Joining as joining

-- a diagram, "its nodes in the order read, with the edges stored", or a refusal
pub data Reading : Type 0 where
  Accepted : List Node → List Stored → Reading
  Refused : CdError → Reading

unfoldable pub with_edges : List Node → Joined → Reading
with_edges ns (joining.Edges es) = Accepted ns es
with_edges ns (joining.Refused r) = Refused r

-- "Then by queue"
unfoldable pub joined : Outcome → Reading
unfolding with_edges
joined (text.On at st) = with_edges st.nodes (join_all (length st.nodes) st.queue 0 [])
joined (text.Refused r) = Refused r

-- the position of the first byte of 128 or more, or of the end
unfoldable pub high : List ℕ → ℕ → ℕ
high [] i = i
high (b ∷ bs) i = let r = high bs (i + 1) in pick (leb 128 b) i r

-- "1, over 255 bytes (position 255). 2, a byte of 128 or more (the first). Then as reading meets them"
unfoldable pub typed_from : Bool → List ℕ → ℕ → Reading
unfolding joined high
typed_from wish s at =
    let r = joined (text_from wish s at) in
    pick (ltb 255 (length s)) (Refused (TooLong 255)) (pick (ltb (high s 0) (length s)) (Refused (NotAscii (high s 0))) r)

-- the edges as typed; with the wish it is document 01's reading
unfoldable pub typed : Bool → List ℕ → Reading
unfolding typed_from
typed wish s = typed_from wish s 0

-- Document 02, K2: "The edge kept after reading should carry num and den divided by their greatest common divisor, so the diagram, the matrix and the record
-- all start from it."
abbrev pub kept_edge : Stored → Stored
kept_edge s = record { first = s.first; other = s.other; edge = reduced s.edge }

unfoldable pub kept : Reading → Reading
unfolding reduced
kept (Accepted ns es) = Accepted ns (map kept_edge es)
kept (Refused r) = Refused r

unfoldable pub read_from : Bool → List ℕ → ℕ → Reading
unfolding typed_from kept
read_from wish s at = kept (typed_from wish s at)

unfoldable pub read : Bool → List ℕ → Reading
unfolding read_from
read wish s = read_from wish s 0

-- ---- how the code answers
unfoldable pub answer : Reading → Result Cd CdError
unfolding cd_of
answer (Accepted ns es) = Ok (cd_of ns es)
answer (Refused r) = Err r
