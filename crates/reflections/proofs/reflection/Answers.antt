-- `reflections::reflection` meets its contract: an entry is read from the two squares and the factor of its column.
use mathlib.Core.Path.{◌≡◌}
use Prim.Native.Nat.{◌+◌, ◌*◌}
use borrow.Author.Rules.{rules}
use lib.Ieee.{nan, of_bits, binary64}
use lib.ListN.{get_or}
use Rattle.float.specs.Numbers.{◌-ᶠ◌, ◌*ᶠ◌, ◌/ᶠ◌}
use Rattle.cd.specs.Diagrams.{limit}
use Rattle.cox.specs.Squares.{dot}
use Rattle.cox.proofs.Sums.{two_literal, entry_read}
use Rattle.reflections.specs.Reflections.{unit, reflection}
use Rattle.reflections.proofs.reflection.Goals as goal

pub returns : goal.returns
unfolding reflection
returns c f e w =
    let i = c.args.i in
    let n = c.args.n in
    let factors = c.from_fn-factors.result in
    c.square.ensures (reflection (f i) n) (λ j r x h l p.
    let told : x ≡ unit j r -ᶠ get_or c.args.m.now (limit * i + r) nan *ᶠ get_or factors j nan = search rules in
    let called = c.from_fn-factors.ensures.items.at j nan h in
    let factor : get_or factors j nan ≡ of_bits binary64 0x4000_0000_0000_0000 *ᶠ dot (unit j) (f i) n /ᶠ c.dot-square.result = search rules in
    let mirror = c.column-mirror.ensures f w in
    rw (
      told,
      entry_read limit f _ nan w i r c.requires.0 l,
      factor,
      two_literal,
      c.dot-square.ensures (f i) (f i) n mirror mirror,
    ))
