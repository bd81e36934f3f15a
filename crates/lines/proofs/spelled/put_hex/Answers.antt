-- `lines::spelled::put_hex` meets its contract: a number that fits the width is written in just so many digits.
use Rattle.std.proofs.Common.{rules, ◌≡◌, ◌++◌, ap, sym, ◌∙◌, arith}
use Rattle.io.specs.Digits.{last_digits}
use Rattle.lines.proofs.Decimals.{padded_digits}
use Rattle.lines.proofs.spelled.put_hex.Goals as goal

pub put_all-requires : goal.put_all-requires
put_all-requires g c =
    let f = c.requires.fits in
    let e : c.hex-k.result ≡ c.args.width = padded_digits c.args.width c.args.n f.0 f.1 f.2 (omega (arith, c.hex-k.ensures.in_bounds.0)) c.hex-k.ensures.len in
    (search rules, omega (arith, sym c.hex-k.ensures.in_bounds.1))

pub returns-clause-added : goal.returns-clause-added
returns-clause-added g c =
    let f = c.requires.fits in
    let e : c.hex-k.result ≡ c.args.width = padded_digits c.args.width c.args.n f.0 f.1 f.2 (omega (arith, c.hex-k.ensures.in_bounds.0)) c.hex-k.ensures.len in
    c.put_all.ensures.added ∙ ap (λ l. c.args.out.now.items ++ l) (c.hex-k.ensures.digits ∙ ap (λ k. last_digits 16 k c.args.n) e)

pub returns-clause-bound : goal.returns-clause-bound
returns-clause-bound g c =
    let f = c.requires.fits in
    let e : c.hex-k.result ≡ c.args.width = padded_digits c.args.width c.args.n f.0 f.1 f.2 (omega (arith, c.hex-k.ensures.in_bounds.0)) c.hex-k.ensures.len in
    omega (arith, c.put_all.ensures.len, sym c.hex-k.ensures.in_bounds.1)
