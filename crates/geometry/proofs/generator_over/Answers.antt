-- `geometry::generator_over` meets its contract: 15, then 16, then the generator.
use mathlib.Core.Path.{refl, sym, ◌∙◌}
use Rattle.std.proofs.lemmas.Result.{err_from_is_err_and}
use Rattle.cd.proofs.Stored.{count_held}
use Rattle.generator.specs.Generator.{values}
use Rattle.generator.proofs.Infinite.{first_found}
use Rattle.lexicon.proofs.Answers.{accepts, refuses, read_few}
use Rattle.geometry.proofs.Shapes.{fits, diagram_normals, diagram_few, generator_crowded, generator_infinite, generator_solved, generator_shown, generator_refused}
use Rattle.geometry.proofs.generator_over.Goals as goal

pub returns-in_err-cd : goal.returns-in_err-cd
returns-in_err-cd c =
    let p = err_from_is_err_and c.from_residual.result c.from_residual.ensures.1 in
    rw (p.1, p.2) (generator_refused _ _ _ (refuses _ _ c.in_err-cd.ensures))

pub normals-requires : goal.normals-requires
normals-requires c =
    let a = accepts _ _ c.in_ok-cd.ensures in
    diagram_few a.ns a.es _ (c.matrix.ensures a.ns a.es a.held) _ _ a.is

pub returns-in_err-columns : goal.returns-in_err-columns
returns-in_err-columns c =
    let a = accepts _ _ c.in_ok-cd.ensures in
    let p = err_from_is_err_and c.from_residual-in_err-columns.result c.from_residual-in_err-columns.ensures.1 in
    let e = diagram_normals a.ns a.es _ (c.matrix.ensures a.ns a.es a.held) _ _ c.in_err-columns.ensures in
    rw (p.1, p.2) (generator_shown _ _ a.ns a.es _ _ a.is refl (generator_crowded _ a.ns _ _ _ e))

pub first_infinite-requires : goal.first_infinite-requires
first_infinite-requires c = read_few _ _ _ c.in_ok-cd.ensures

pub returns-in-Some : goal.returns-in-Some
returns-in-Some c =
    let a = accepts _ _ c.in_ok-cd.ensures in
    let f = fits _ _ _ (diagram_normals a.ns a.es _ (c.matrix.ensures a.ns a.es a.held) _ _ c.in_ok-columns.ensures) in
    let n = count_held _ a.ns a.es a.held in
    let first = first_found a.ns _ _ n (read_few _ _ _ c.in_ok-cd.ensures) (c.values-values.ensures a.ns a.es a.held) in
    generator_shown _ _ a.ns a.es _ _ a.is f.is (generator_infinite _ a.ns f.square _ n _ (sym first ∙ sym c.in-Some.ensures))

pub of-requires : goal.of-requires
of-requires c = read_few _ _ _ c.in_ok-cd.ensures

pub returns : goal.returns
returns c =
    let a = accepts _ _ c.in_ok-cd.ensures in
    let f = fits _ _ _ (diagram_normals a.ns a.es _ (c.matrix.ensures a.ns a.es a.held) _ _ c.in_ok-columns.ensures) in
    let n = count_held _ a.ns a.es a.held in
    let v = c.values-values.ensures a.ns a.es a.held in
    let first = first_found a.ns _ _ n (read_few _ _ _ c.in_ok-cd.ensures) v in
    generator_shown _ _ a.ns a.es _ _ a.is f.is (generator_solved _ a.ns f.square _ n _ (sym first ∙ sym c.in_default.ensures) (c.of.ensures f.square (values a.ns) f.held v))
