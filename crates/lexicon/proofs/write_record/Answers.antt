-- `lexicon::write_record` meets its contract: the diagram of an accepted text can be filed (proofs/Fileable.antt).
use mathlib.Core.Path.{refl}
use Rattle.std.proofs.lemmas.Result.{err_from_is_err_and}
use Rattle.cd.proofs.Stored.{count_held}
use Rattle.tables.proofs.TableLayouts.{numbers_held}
use Rattle.lexicon.specs.Files.{refused, short, filed}
use Rattle.lexicon.proofs.Answers.{read_few, accepts, refuses}
use Rattle.lexicon.proofs.Fileable.{accepted_kept, accepted_numbers}
use Rattle.lexicon.proofs.write_record.Goals as goal

pub returns-in_err-cd : goal.returns-in_err-cd
returns-in_err-cd c =
    let p = err_from_is_err_and c.from_residual.result c.from_residual.ensures.1 in
    refused (refuses _ _ c.in_err-cd.ensures) (rw (p.1, p.2)) refl

pub returns-then-out-lt-RECORD : goal.returns-then-out-lt-RECORD
returns-then-out-lt-RECORD c = short (accepts _ _ c.in_ok-cd.ensures).is c.if-out-lt-RECORD.true refl refl

pub write-numbering-requires : goal.write-numbering-requires
write-numbering-requires c =
    let a = accepts _ _ c.in_ok-cd.ensures in
    (numbers_held _ a.ns a.es a.held (accepted_numbers _ _ a.ns a.es a.is), read_few _ _ _ c.in_ok-cd.ensures, c.if-out-lt-RECORD.false)

pub returns : goal.returns
returns c =
    let a = accepts _ _ c.in_ok-cd.ensures in
    filed a.is c.if-out-lt-RECORD.false refl (count_held _ a.ns a.es a.held) (c.write-numbering.ensures a.ns a.es a.held (accepted_kept _ _ a.ns a.es a.is))
