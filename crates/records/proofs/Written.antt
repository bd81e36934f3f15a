-- What `Written` says: the numbering handed out numbers the nodes and lays out the record; and record, numbering and buffer are one only, since a diagram has one record
-- and of the numberings that give it one is the first. Assumes nothing.
use mathlib.Core.List.{List}
use mathlib.Core.Path.{◌≡◌, sym, ap, ◌∙◌, subst}
use Prim.Native.Nat.{ℕ, ◌<◌}
use lib.ListN.{take, drop}
use lib.Seq.{get_or-take}
use Rattle.filing.specs.Diagrams.{Diagram}
use Rattle.filing.specs.First.{First}
use Rattle.filing.specs.Numberings.{Numbering, at}
use Rattle.filing.specs.Records.{record_length, layout}
use Rattle.filing.proofs.Bytes.{parts_same}
use Rattle.filing.proofs.Filing.{record_unique}
use Rattle.filing.proofs.First.{first_unique}
use Rattle.filing.proofs.Layouts.{layout_local}
use Rattle.filing.proofs.Numberings.{numbering_same}
use Rattle.records.specs.Written.{Written}

module _ {N : ℕ} {d : Diagram} {out out' p : List ℕ} (w : Written N d out out' p) where
  in_front : (i : ℕ) → i < d.size → at p i ≡ at (take d.size p) i
  in_front i h = sym (get_or-take d.size p i 0 h)

  pub written_numbers : Numbering d.size (at p)
  written_numbers = numbering_same in_front w.first.gives.valid

  pub written_gives : take (record_length N) out' ≡ layout N d (at p)
  written_gives = w.first.gives.laid ∙ sym (layout_local N d (at p) (at (take d.size p)) in_front)

module _ {N : ℕ} {d : Diagram} {a a' p b b' q : List ℕ} (v : Written N d a a' p) (w : Written N d b b' q) where
  -- one record and one numbering, whatever the buffers were
  pub same_bytes : take (record_length N) a' ≡ take (record_length N) b'
  same_bytes = record_unique v.bytes w.bytes

  pub same_numbering : p ≡ q
  same_numbering = parts_same d.size p q (first_unique (subst (λ bs. First N d bs (take d.size p)) same_bytes v.first) w.first) (v.spare ∙ sym w.spare)

  -- and one buffer afterwards, if it was one before
  pub same_buffer : a ≡ b → a' ≡ b'
  same_buffer e = parts_same (record_length N) a' b' same_bytes (v.rest ∙ ap (drop (record_length N)) e ∙ sym w.rest)
