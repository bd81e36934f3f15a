-- `records::put_number` meets its contract.
use mathlib.Core.Path.{ap, ◌∙◌}
use Rattle.filing.specs.Bytes.{written}
use Rattle.records.proofs.Parts.{eight_bytes}
use Rattle.records.proofs.put_number.Goals as goal

pub returns : goal.returns
returns c = c.put.ensures ∙ ap (λ z. written c.args.k z c.args.out.now) (c.to_be_bytes.ensures ∙ eight_bytes c.args.x)
