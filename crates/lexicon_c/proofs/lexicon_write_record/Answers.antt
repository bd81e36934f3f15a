-- `lexicon_c::lexicon_write_record` meets its contract.
use mathlib.Core.Path.{◌≡◌, refl}
use borrow.Author.Rules.{rules}
use Rattle.cd.specs.Arrays.{padded}
use Rattle.lent.specs.Outcomes.{outcome, told, figures}
use Rattle.lexicon_c.specs.Calls.{replaced}
use Rattle.lexicon_c.proofs.lexicon_write_record.Goals as goal

pub returns-in-Ok : goal.returns-in-Ok
unfolding padded replaced told outcome
returns-in-Ok c =
    let copied : c.copy_from_slice.new.self ≡ c.in-Ok.f.numbering = search rules in
    record {
      filed = c.write_record.result;
      files = c.write_record.ensures;
      nodes = rw c.in-Ok.is copied;
      tells = record { answer = rw c.in-Ok.is c.tell.ensures.0; returned = c.tell.ensures.1 };
    }

pub returns-in-Err : goal.returns-in-Err
unfolding padded replaced told outcome figures
returns-in-Err c =
    record {
      filed = c.write_record.result;
      files = c.write_record.ensures;
      nodes = rw c.in-Err.is refl;
      tells = record { answer = rw c.in-Err.is c.tell_result.ensures.0; returned = c.tell_result.ensures.1 };
    }
