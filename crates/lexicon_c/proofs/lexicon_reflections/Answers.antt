-- `lexicon_c::lexicon_reflections` meets its contract: the reflections in a text's mirrors are those that geometry::reflections answers, and how many entries they
-- have (proofs/Entries.antt).
use Rattle.geometry.proofs.Shapes.{mirrored, mirrored_few, reflections_shown, reflections_refused}
use Rattle.lent.specs.Shown.{of_reflected}
use Rattle.lent.proofs.Showing.{lends_same, lends_shown, lends_refusal}
use Rattle.lexicon_c.proofs.Entries.{reflections_long}
use Rattle.lexicon_c.proofs.lexicon_reflections.Goals as goal

pub fill-requires : goal.fill-requires
fill-requires c = (mirrored_few _ _ _ (mirrored _ _ c.in-Ok.ensures), c.new-all.ensures.1)

pub show_one-requires : goal.show_one-requires
show_one-requires c =
    let m = mirrored _ _ c.in-Ok.ensures in
    reflections_long _ _ (reflections_shown _ _ _ m (c.fill.ensures m.fits.square m.fits.held))

pub returns-in-Ok : goal.returns-in-Ok
returns-in-Ok c =
    let m = mirrored _ _ c.in-Ok.ensures in
    lends_same of_reflected (reflections_shown _ _ _ m (c.fill.ensures m.fits.square m.fits.held)) (lends_shown _ _ _ _ _ c.show_one.ensures)

pub returns-in-Err : goal.returns-in-Err
returns-in-Err c = lends_same of_reflected (reflections_refused _ _ c.in-Err.ensures) (lends_refusal _ _ _ _ c.tell_result.ensures)
