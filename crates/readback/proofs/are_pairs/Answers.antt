-- `readback::are_pairs` meets its contract.
use mathlib.Core.Path.{subst}
use Prim.Native.Nat.{ℕ, ◌+◌, ◌*◌, ◌<◌}
use borrow.Author.Rules.{rules}
use Rattle.cd.specs.Minimal.{Decides}
use Rattle.filing.specs.Readable.{fraction_at}
use Rattle.tables.specs.Tables.{IsPair}
use Rattle.readback.proofs.Every.{all_decides}
use Rattle.readback.proofs.PairPlaces.{square_pairs}
use Rattle.readback.proofs.are_pairs.Goals as goal

pub returns : goal.returns
returns c =
    subst (λ m. Decides ((k : ℕ) → k < m → IsPair (fraction_at c.args.s.now (82 + 8 * k))) c.all.result) (square_pairs c.args.n)
    (all_decides _ _ (λ k. IsPair (fraction_at c.args.s.now (82 + 8 * k))) _ (search rules) (λ k b l call. search rules) _ c.all.ensures.runs)
