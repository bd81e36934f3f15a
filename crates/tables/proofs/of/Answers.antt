-- `tables::of` meets its contract: what its tables hold is a law of `proofs/Held.antt`.
use Prim.Native.Nat.{ℕ, zero-le}
use mathlib.Core.Path.{refl}
use borrow.Author.Rules.{rules}
use lib.ListN.{get_or}
use Rattle.cd.specs.Diagrams.{limit, place}
use Rattle.cd.specs.declared.Cd.{Cd}
use Rattle.cd.specs.declared.Node.{Node}
use Rattle.cd.specs.declared.Node.TheVariants.{Unringed}
use Rattle.tables.specs.Diagrams.{filed}
use Rattle.tables.proofs.FromFn.{from_fn_gives}
use Rattle.tables.proofs.Held.{tables_hold}
use Rattle.tables.proofs.of.Goals as goal

abbrev node : Cd → ℕ → Node
node cd i = (get_or cd.nodes i (place Unringed)).node

pub returns : goal.returns
returns c = (
  refl,
  λ ns es held. tables_hold c.args.cd ns es held _ refl
      (λ i h. from_fn_gives _ _ (λ i. (filed (node c.args.cd i)).kind) limit (λ j y q l call. search rules) _ 0 limit refl c.from_fn.ensures.items.each i 0 zero-le h)
      (λ i h. from_fn_gives _ _ (λ i. (filed (node c.args.cd i)).bits) limit (λ j y q l call. search rules) _ 0 limit refl c.from_fn-2.ensures.items.each i 0 zero-le h)
      c.pairs_of.ensures,
)
