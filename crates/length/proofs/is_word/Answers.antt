-- `length::is_word` meets its contract: lists of one length are compared byte by byte, others differ.
use mathlib.Core.Path.{ap, ◌∙◌}
use borrow.Author.Tests.{ne_eqb}
use lib.ListN.{drop}
use Rattle.std.proofs.Common.{Iter, rules, tests}
use Rattle.std.proofs.lemmas.Iterator.{YieldsList-from_slice, YieldsList-from_zip}
use Rattle.std.proofs.lemmas.Iterator.Search.{all_from_yields_List}
use Rattle.scan.proofs.First.{slice_rest}
use Rattle.length.proofs.Words.{same_letter, word_of_length, word_of_other_length}
use Rattle.length.proofs.is_word.Goals as goal

pub returns-then-rest-word : goal.returns-then-rest-word
returns-then-rest-word c =
    let rest = ap (λ (i : Iter _). i.rest.now) c.zip.ensures.first ∙ c.iter.ensures.rest ∙ slice_rest c.args.t.now c.args.at in
    all_from_yields_List same_letter c.all.new.self _ c.all.result c.all.ensures.ran
    (YieldsList-from_zip {v = λ y. y.now} {w = λ y. y.now} (YieldsList-from_slice (drop c.args.at c.args.t.now) rest) (YieldsList-from_slice c.args.word.now c.zip.ensures.second.0))
    (λ x b q k. search (rules, tests)) ∙ word_of_length _ _ (rw slice_rest at c.if-rest-word.true)

pub returns-else-rest-word : goal.returns-else-rest-word
returns-else-rest-word c = ne_eqb _ _ c.if-rest-word.false ∙ word_of_other_length _ _ (rw slice_rest at c.if-rest-word.false)
