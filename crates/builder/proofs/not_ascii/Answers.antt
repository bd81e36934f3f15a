-- `builder::not_ascii` meets its contract: `position` finds the first byte of 128 or more, if there is one.
use mathlib.Core.Path.{◌≡◌, refl}
use lib.Dec.{leb}
use Rattle.std.proofs.Common.{rules, tests}
use Rattle.std.proofs.lemmas.Iterator.{YieldsList-from_slice}
use Rattle.std.proofs.lemmas.Iterator.Search.{position_from_yields_List}
use Rattle.std.specs.List.{position}
use Rattle.scan.proofs.First.{first_or_length}
use Rattle.parse.specs.Reading.{high}
use Rattle.builder.proofs.not_ascii.Goals as goal

pub returns : goal.returns
unfolding high
returns c =
    let s = c.args.s.now in
    let found : c.position.result ≡ position (leb 128) s = position_from_yields_List (leb 128) c.position.new.self _ c.position.result c.position.ensures.ran (YieldsList-from_slice s c.iter.ensures.rest) (λ x b q k. search (rules, tests)) in
    rw (c.unwrap_or.ensures, found) (first_or_length (leb 128) high (λ i. refl) (λ b bs i. refl) s)
