-- `records::put_count` meets its contract: zeros, and the count set in their front.
use mathlib.Core.List.{◌++◌}
use mathlib.Core.Path.{◌≡◌, ap, ◌∙◌}
use Prim.Native.Nat.{◌-◌}
use lib.ListN.{set, drop, replicate}
use lib.Seq.{length-take-le}
use Rattle.cd.specs.Diagrams.{limit}
use Rattle.filing.specs.Records.{record_length}
use Rattle.records.proofs.Parts.{zeros_front, count_then}
use Rattle.records.proofs.put_count.Goals as goal

pub returns : goal.returns
returns c =
    let out = c.args.out.now in
    let zeros : c.fill.new.self ≡ replicate (record_length limit) 0 =
    c.fill.ensures.after (λ y e. e) ∙ ap (λ m. replicate m 0) (length-take-le (record_length limit) out c.requires.1) in
    ap (λ z. set (z ++ drop (record_length limit) out) 0 c.args.n) zeros
    ∙ ap (λ z. set z 0 c.args.n) (zeros_front (record_length limit) out)
    ∙ count_then (record_length limit - 1) c.args.n out
