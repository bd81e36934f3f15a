-- Two texts whose records are on a shelf stand at the same place exactly when some renumbering carries one text's diagram onto the other's: a shelf has no record
-- twice, and by demand 3 equal records are equal figures. It rests on the promises of `write_record` and `find` alone. Assumes nothing.
use Rattle.std.specs.Prelude.{Result, Ok}
use mathlib.Core.Bool.{Bool, true}
use mathlib.Core.List.{List}
use mathlib.Core.Logic.{◌↔◌}
use mathlib.Core.Path.{◌≡◌, sym, ap, ◌∙◌, subst}
use Prim.Native.Nat.{ℕ, ◌≤◌}
use lib.ListN.{length, take}
use Rattle.cd.specs.Diagrams.{Stored, limit}
use Rattle.cd.specs.declared.CdError.{CdError}
use Rattle.cd.specs.declared.Node.{Node}
use Rattle.filing.specs.Diagrams.{Iso}
use Rattle.filing.specs.Records.{record_length}
use Rattle.lexicon.specs.Files.{Files}
use Rattle.lexicon.specs.declared.Filed.{Filed}
use Rattle.lexicon.proofs.Demand3.{no_false_match, no_missed_match}
use Rattle.parse.specs.Reading.{Accepted, read}
use Rattle.tables.specs.Diagrams.{diagram}
use Rattle.shelf.specs.Finds.{Finds}
use Rattle.shelf.specs.Shelves.{place_at}
use Rattle.shelf.specs.declared.Found.{Found}
use Rattle.shelf.proofs.Once.{finds_once}
use Rattle.shelf.proofs.Outcomes.{found_present}

-- two wishes, and two texts that are accepted so; two buffers that 12 does not refuse, before and after; two answers that the promise allows; and the places of the
-- two records on a shelf
module _ (v w : Bool) (s t : List ℕ) (ns ms : List Node) (es fs : List Stored) (a a' b b' : List ℕ) (x y : Result Filed CdError)
    (accepted-s : read v s ≡ Accepted ns es) (accepted-t : read w t ≡ Accepted ms fs)
    (long-a : record_length limit ≤ length a) (long-b : record_length limit ≤ length b)
    (files-s : Files v s a a' x) (files-t : Files w t b b' y)
    (file : List ℕ) (p q : Result Found CdError) (finds-s : Finds limit file (take (record_length limit) a') p) (finds-t : Finds limit file (take (record_length limit) b') q)
    (f g : Found) (sound-f : p ≡ Ok f) (sound-g : q ≡ Ok g) (on-f : f.present ≡ true) (on-g : g.present ≡ true) where
  same_record : f.place ≡ g.place → take (record_length limit) a' ≡ take (record_length limit) b'
  same_record e =
      let (n, _, here) = found_present finds-s sound-f on-f in
      let (m, _, there) = found_present finds-t sound-g on-g in
      sym here.here ∙ ap (place_at (record_length limit) file) e ∙ there.here

  same_place : take (record_length limit) a' ≡ take (record_length limit) b' → f.place ≡ g.place
  same_place e = let z = sym sound-f ∙ finds_once finds-s (subst (λ bs. Finds limit file bs q) (sym e) finds-t) ∙ sound-g in cc

  -- ONE FIGURE, ONE PLACE
  pub one_figure_one_place : (f.place ≡ g.place) ↔ Iso (diagram ns es) (diagram ms fs)
  one_figure_one_place = (
    λ e. no_false_match v w s t ns ms es fs a a' b b' x y accepted-s accepted-t long-a long-b files-s files-t (same_record e),
    λ i. same_place (no_missed_match v w s t ns ms es fs a a' b b' x y accepted-s accepted-t long-a long-b files-s files-t i),
  )
