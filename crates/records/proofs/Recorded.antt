-- The smallest layout of tables that hold a diagram, written over the first bytes of a buffer, is the diagram's record, and the first numbering that lays it out is
-- the first that gives the record: layouts of tables and of the diagram are the same. Assumes nothing.
use mathlib.Core.List.{List, ◌++◌}
use mathlib.Core.Logic.{inr}
use mathlib.Core.Path.{◌≡◌, sym, ap, ◌∙◌, subst, subst₂}
use Prim.Native.Nat.{ℕ, ◌<◌}
use native.Mathlib.Omega.{arith}
use lib.ListN.{length, take, drop}
use lib.Seq.{take_at, drop_at, get_or-take, length-take-le}
use Rattle.filing.specs.Bytes.{◌≼◌}
use Rattle.filing.specs.Diagrams.{Diagram, IsDiagram}
use Rattle.filing.specs.First.{Gives, First}
use Rattle.filing.specs.Numberings.{Numbering, at, plain}
use Rattle.filing.specs.Records.{record_length, layout}
use Rattle.filing.proofs.First.{at_most_list}
use Rattle.filing.proofs.Layouts.{length_layout, layout_local}
use Rattle.filing.proofs.Numberings.{numbering_same}
use Rattle.filing.proofs.Sequences.{at_most_trans}
use Rattle.search.specs.Search.{Smallest, Foremost}
use Rattle.tables.specs.Tables.{Entries, Holds, table_layout}
use Rattle.tables.proofs.TableLayouts.{table_layout_lem}
use Rattle.records.specs.Written.{Written}

module _ (N : ℕ) (t : Entries) (d : Diagram) (held : Holds N t d) (is : IsDiagram N d) (p : List ℕ) (found : Smallest N t p) (foremost : Foremost N t p) where
  abbrev laid : (ℕ → ℕ) → List ℕ
  laid q = table_layout N t q

  numbers : Numbering d.size (at p)
  numbers = rw held.count at found.numbering

  least : (q : ℕ → ℕ) → Numbering d.size q → layout N d (at p) ≼ layout N d q
  least q nq =
      subst₂ ◌≼◌ (table_layout_lem N t d held is (at p) numbers) (table_layout_lem N t d held is q nq)
      (found.least q (subst (λ n. Numbering n q) (sym held.count) nq))

  cut : length (take d.size p) ≡ d.size
  cut = length-take-le d.size p (omega (arith, is.few, foremost.room))

  same_nodes : (i : ℕ) → i < d.size → at (take d.size p) i ≡ at p i
  same_nodes i h = get_or-take d.size p i 0 h

  first_given : {bs : List ℕ} → bs ≡ layout N d (at p) → First N d bs (take d.size p)
  first_given {bs} gives = record {
    gives = record { long = cut; valid = numbering_same same_nodes numbers; laid = gives ∙ sym (layout_local N d (at (take d.size p)) (at p) same_nodes) };
    least = least_list;
  }
    where
      least_list : (other : List ℕ) → Gives N d bs other → take d.size p ≼ other
      least_list other g =
          let laid_same = table_layout_lem N t d held is (at other) g.valid ∙ sym g.laid ∙ gives ∙ sym (table_layout_lem N t d held is (at p) numbers) in
          let a = rw held.count at (foremost.first (at other) (subst (λ n. Numbering n (at other)) (sym held.count) g.valid) laid_same) in
          at_most_list d.size (take d.size p) other cut g.long (at_most_trans (at (take d.size p)) (at p) (at other) (inr same_nodes) a)

  pub record_written : (out out' : List ℕ) → out' ≡ laid (at p) ++ drop (record_length N) out → Written N d out out' p
  record_written out out' e = record {
    bytes = record { numbering = at p; valid = numbers; laid = gives; least = λ q nq. subst (λ z. z ≼ layout N d q) (sym gives) (least q nq) };
    rest = rw whole (drop_at (layout N d (at p)) (drop (record_length N) out) (record_length N) long);
    first = first_given gives;
    spare = subst (λ n. drop n p ≡ drop n (plain N)) held.count found.spare;
  }
    where
      long : length (layout N d (at p)) ≡ record_length N
      long = length_layout N d is.few (at p)

      whole : out' ≡ layout N d (at p) ++ drop (record_length N) out
      whole = e ∙ ap (λ z. z ++ drop (record_length N) out) (table_layout_lem N t d held is (at p) numbers)

      gives : take (record_length N) out' ≡ layout N d (at p)
      gives = rw whole (take_at (layout N d (at p)) (drop (record_length N) out) (record_length N) long)
