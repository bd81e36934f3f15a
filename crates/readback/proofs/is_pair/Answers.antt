-- `readback::is_pair` meets its contract: the tests are those of an edge, whose numbers fit; a den that reducing leaves as it is has nothing to divide.
use mathlib.Core.Path.{◌≡◌, ap, sym, ◌∙◌}
use Prim.Native.Nat.{◌^◌, ◌<◌}
use native.Mathlib.Omega.{arith}
use borrow.Author.Rules.{rules}
use borrow.Author.Tests.{eqb-true, eq-eqb}
use Rattle.cd.specs.Edges.{reduced}
use Rattle.cd.specs.declared.Edge.{Edge}
use Rattle.filing.specs.Fractions.{lowest}
use Rattle.filing.specs.Readable.{fraction_at}
use Rattle.filing.proofs.Gcd.{lowest_undivided}
use Rattle.readback.proofs.is_pair.Goals as goal

pub returns-then-edge : goal.returns-then-edge
unfolding reduced
returns-then-edge c =
    let x = fraction_at c.args.s.now c.args.k in
    let e = c.edge_at-edge in
    let num : e.result.num ≡ x.num = ap (λ (e : Edge). e.num) e.ensures in
    let den : e.result.den ≡ x.den = ap (λ (e : Edge). e.den) e.ensures in
    let least : c.reduced.result.den ≡ (lowest x).den = ap (λ (e : Edge). e.den) c.reduced.ensures ∙ ap (λ (e : Edge). (reduced e).den) e.ensures in
    let fits : e.result.num < 2 ^ 32 = search rules in
    let b = c.if-edge.true in record {
      only_when = λ t. (
        record { fits = omega arith; den_pos = omega arith; above_one = omega arith },
        lowest_undivided x (omega arith) (sym least ∙ eqb-true _ _ t ∙ den),
      );
      when = λ w. eq-eqb _ _ (least ∙ ap (λ x. x.den) w.1 ∙ sym den);
    }
