-- What the two tests of a record tell, of bytes that spell a diagram which tables hold: bytes that are not its layout as they stand are no layout; a layout that is not
-- the smallest is 22, and the smallest is read back as the diagram. Assumes nothing.
use mathlib.Core.List.{List}
use mathlib.Core.Path.{◌≡◌, refl, sym, ◌∙◌, subst, subst₂}
use Prim.Native.Nat.{ℕ, ◌≤◌}
use native.Mathlib.Omega.{arith}
use Rattle.cd.specs.declared.CdError.TheVariants.{NotSmallest}
use Rattle.filing.specs.Bytes.{◌≼◌}
use Rattle.filing.specs.Diagrams.{IsDiagram}
use Rattle.filing.specs.Numberings.{Numbering, at, plain}
use Rattle.filing.specs.Readable.{LaidOut, spelled}
use Rattle.filing.specs.Records.{layout}
use Rattle.filing.proofs.Layouts.{layout_local}
use Rattle.filing.proofs.Searching.{at_plain, plain_front}
use Rattle.parse.specs.Reading.{Accepted, Refused}
use Rattle.search.specs.Search.{Smallest}
use Rattle.tables.specs.Tables.{Entries, Holds, table_layout}
use Rattle.tables.proofs.TableLayouts.{table_layout_lem}
use Rattle.readback.specs.ReadBack.{ReadBack, record_of}
use Rattle.readback.specs.ReadBack as read_back
use Rattle.readback.specs.Spelled.{nodes_in, edges_in}
use Rattle.readback.proofs.SpelledLaws.{read_back, spelled_is_diagram}
use Rattle.readback.proofs.ReadBackLaws.{laid_out_back}

module _ (N : ℕ) (l : List ℕ) (w : IsDiagram N (spelled N l)) (t : Entries) (held : Holds N t (read_back N l)) where
  abbrev laid : (ℕ → ℕ) → List ℕ
  laid p = table_layout N t p

  is : IsDiagram N (read_back N l)
  is = spelled_is_diagram N l w

  pub tables_few : t.count ≤ N
  tables_few = omega (arith, held.count, is.few)

  pub plain_numbers : Numbering t.count (at (plain N))
  plain_numbers = (plain_front tables_few).valid

  -- a numbering by the tables' count numbers the diagram's nodes, and the layouts are the same
  numbers : {p : ℕ → ℕ} → Numbering t.count p → Numbering (read_back N l).size p
  numbers np = rw held.count at np

  same_layout : (p : ℕ → ℕ) → Numbering t.count p → laid p ≡ layout N (read_back N l) p
  same_layout p np = table_layout_lem N t (read_back N l) held is p (numbers np)

  pub not_laid : (l ≡ laid (at (plain N)) → ⊥) → LaidOut N l → ⊥
  not_laid ne h =
      let plainly = layout_local N (read_back N l) (at (plain N)) (λ i. i) (λ i h. at_plain N i (omega (arith, is.few))) in
      ne (sym (same_layout (at (plain N)) plain_numbers ∙ plainly ∙ laid_out_back N l h))

  -- bytes that are the layout as it stands
  module _ (e : l ≡ laid (at (plain N))) where
    numbering : Numbering (read_back N l).size (at (plain N))
    numbering = numbers plain_numbers

    as_laid : l ≡ layout N (read_back N l) (at (plain N))
    as_laid = e ∙ same_layout (at (plain N)) plain_numbers

    pub not_smallest : (Smallest N t (plain N) → ⊥) → ReadBack N l (Refused NotSmallest)
    not_smallest ne = read_back.not_smallest (record { of = read_back N l; is = is; numbering = at (plain N); valid = numbering; laid = as_laid }) (λ r. ne record {
      numbering = plain_numbers;
      least = λ q nq. subst₂ ◌≼◌ e (sym (same_layout q nq)) (r.least q (numbers nq));
      spare = refl;
    })

    pub read_smallest : Smallest N t (plain N) → ReadBack N l (Accepted (nodes_in l) (edges_in N l))
    read_smallest found = record_of is record { numbering = at (plain N); valid = numbering; laid = as_laid; least = least }
      where
        least : (q : ℕ → ℕ) → Numbering (read_back N l).size q → l ≼ layout N (read_back N l) q
        least q nq =
            let mq : Numbering t.count q = subst (λ n. Numbering n q) (sym held.count) nq in
            subst₂ ◌≼◌ (sym e) (same_layout q mq) (found.least q mq)
