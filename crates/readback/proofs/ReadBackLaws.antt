-- Bytes are laid out exactly when what they spell is a diagram with them as its layout, and the diagram that is read back has the spelled one's layouts: so bytes that
-- are its smallest layout are its record. The answers 13, 14, 22 and a diagram exclude each other and leave nothing over. Assumes nothing.
use mathlib.Core.List.{List}
use mathlib.Core.Logic.{◌≢◌, ◌↔◌}
use mathlib.Core.Path.{◌≡◌, refl, sym, ap, ◌∙◌, subst}
use Prim.Native.Nat.{ℕ}
use native.Mathlib.Decide.{ℕ_discrete}
use lib.ListN.{length}
use Rattle.cd.specs.declared.CdError.TheVariants.{RecordLength, NoDiagram, NotSmallest}
use Rattle.filing.specs.Readable.{Readable, LaidOut, spelled}
use Rattle.filing.specs.Records.{record_length, layout, IsRecord}
use Rattle.filing.proofs.Filing.{record_carried}
use Rattle.filing.proofs.LaidOut.{laid_out_decided, record_decided}
use Rattle.filing.proofs.Layouts.{length_layout}
use Rattle.filing.proofs.Numberings.{identity}
use Rattle.filing.proofs.Readback.{laid_out_diagram, laid_out_plain, laid_out_lowest, record_of_spelled, readable_laid_out, readable_record}
use Rattle.parse.specs.Reading.{Reading, Accepted, Refused}
use Rattle.tables.specs.Tables.{IsKept}
use Rattle.readback.specs.ReadBack.{ReadBack, wrong_length, no_diagram, not_smallest, record_of}
use Rattle.readback.specs.Spelled.{nodes_in, edges_in}
use Rattle.readback.proofs.SpelledLaws.{read_back, spelled_is_diagram, spelled_layout, spelled_carries}

-- ---- bytes that are laid out

module _ (N : ℕ) (l : List ℕ) (h : LaidOut N l) where
  pub laid_out_kept : IsKept N (spelled N l)
  laid_out_kept = record { is = laid_out_diagram N l h; lowest_terms = laid_out_lowest N l h }

  pub laid_out_back : layout N (read_back N l) (λ i. i) ≡ l
  laid_out_back = spelled_layout N l (laid_out_diagram N l h) (λ i. i) (identity (spelled N l).size) ∙ laid_out_plain N l h

  pub laid_out_length : length l ≡ record_length N
  laid_out_length = ap length h.laid ∙ length_layout N h.of h.is.few h.numbering

-- ---- one answer

-- each answer is given wherever its reason holds, and no other is
module _ {N : ℕ} {l : List ℕ} where
  pub wrong_length_read : {x : Reading} → length l ≢ record_length N → ReadBack N l x → x ≡ Refused RecordLength
  wrong_length_read n (wrong_length m) = refl
  wrong_length_read n (no_diagram e m) = absurd (n e)
  wrong_length_read n (not_smallest h m) = absurd (n (laid_out_length N l h))
  wrong_length_read n (record_of w r) = absurd (n (laid_out_length N l (readable_laid_out (read_back N l, w, r))))

  pub no_diagram_read : {x : Reading} → length l ≡ record_length N → (LaidOut N l → ⊥) → ReadBack N l x → x ≡ Refused NoDiagram
  no_diagram_read e n (wrong_length m) = absurd (m e)
  no_diagram_read e n (no_diagram f m) = refl
  no_diagram_read e n (not_smallest h m) = absurd (n h)
  no_diagram_read e n (record_of w r) = absurd (n (readable_laid_out (read_back N l, w, r)))

  pub not_smallest_read : {x : Reading} (h : LaidOut N l) → (IsRecord N h.of l → ⊥) → ReadBack N l x → x ≡ Refused NotSmallest
  not_smallest_read h n (wrong_length m) = absurd (m (laid_out_length N l h))
  not_smallest_read h n (no_diagram e m) = absurd (m h)
  not_smallest_read h n (not_smallest k m) = refl
  not_smallest_read h n (record_of w r) = absurd (n (readable_record h (read_back N l, w, r)))

  pub readable_read : {x : Reading} → Readable N l → ReadBack N l x → x ≡ Accepted (nodes_in l) (edges_in N l)
  readable_read r (wrong_length m) = absurd (m (laid_out_length N l (readable_laid_out r)))
  readable_read r (no_diagram e m) = absurd (m (readable_laid_out r))
  readable_read r (not_smallest h m) = absurd (m (readable_record h r))
  readable_read r (record_of w s) = refl

  -- the answers exclude each other
  pub read_back_once : {x y : Reading} → ReadBack N l x → ReadBack N l y → x ≡ y
  read_back_once (wrong_length n) b = sym (wrong_length_read n b)
  read_back_once (no_diagram e n) b = sym (no_diagram_read e n b)
  read_back_once (not_smallest h n) b = sym (not_smallest_read h n b)
  read_back_once (record_of w r) b = sym (readable_read (read_back N l, w, r) b)

-- they leave nothing over
pub read_back_some : (N : ℕ) (l : List ℕ) → (x : Reading) × ReadBack N l x
read_back_some N l = go (ℕ_discrete (length l) (record_length N)) (laid_out_decided N l) (record_decided N (spelled N l) l)
  where
    go : Dec (length l ≡ record_length N) → Dec (LaidOut N l) → Dec (IsRecord N (spelled N l) l) → (x : Reading) × ReadBack N l x
    go (no n) h r = (_, wrong_length n)
    go (yes e) (no n) r = (_, no_diagram e n)
    go (yes e) (yes h) (no n) = (_, not_smallest h (λ r. n (record_of_spelled h r)))
    go (yes e) (yes h) (yes r) = let w = laid_out_diagram N l h in (_, record_of (spelled_is_diagram N l w) (record_carried w (spelled_is_diagram N l w) (λ i. i, spelled_carries N l w) r))

-- ---- when 14, when 22, when a diagram

module _ (N : ℕ) (l : List ℕ) where
  pub no_diagram_iff : ReadBack N l (Refused NoDiagram) ↔ ((length l ≡ record_length N) × (LaidOut N l → ⊥))
  no_diagram_iff = (to, λ (e, n). no_diagram e n)
    where
      to : ReadBack N l (Refused NoDiagram) → (length l ≡ record_length N) × (LaidOut N l → ⊥)
      to (no_diagram e n) = (e, n)

  pub not_smallest_iff : ReadBack N l (Refused NotSmallest) ↔ (LaidOut N l × (Readable N l → ⊥))
  not_smallest_iff = (to, λ (h, n). not_smallest h (λ r. n (h.of, h.is, r)))
    where
      to : ReadBack N l (Refused NotSmallest) → LaidOut N l × (Readable N l → ⊥)
      to (not_smallest h n) = (h, λ r. n (readable_record h r))

  pub accepted_iff : ReadBack N l (Accepted (nodes_in l) (edges_in N l)) ↔ Readable N l
  accepted_iff = (to, from)
    where
      given : (x : Reading) → ReadBack N l x → x ≡ Accepted (nodes_in l) (edges_in N l) → Readable N l
      given _ (wrong_length n) e = absurd (cc)
      given _ (no_diagram m n) e = absurd (cc)
      given _ (not_smallest h n) e = absurd (cc)
      given _ (record_of w r) e = (read_back N l, w, r)

      to : ReadBack N l (Accepted (nodes_in l) (edges_in N l)) → Readable N l
      to b = given _ b refl

      from : Readable N l → ReadBack N l (Accepted (nodes_in l) (edges_in N l))
      from r = let (x, b) = read_back_some N l in subst (ReadBack N l) (readable_read r b) b
