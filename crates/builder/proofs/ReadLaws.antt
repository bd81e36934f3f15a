-- The tests before reading: the length, and the first byte of 128 or more. Assumes nothing.
use Prim.Native.Nat.{ℕ, ◌≤◌, ◌<◌}
use mathlib.Core.Bool.{Bool}
use mathlib.Core.List.{List}
use mathlib.Core.Path.{◌≡◌, sym, ap}
use native.Mathlib.Omega.{arith}
use borrow.Author.Tests.{lt-ltb, le-ltb}
use lib.ListN.{length, drop_of_length-le}
use Rattle.std.specs.Prelude.{Err}
use Rattle.cd.specs.declared.CdError.TheVariants.{TooLong, NotAscii, UnexpectedEnding}
use Rattle.scan.specs.Spaces.{skip}
use Rattle.node.specs.Nodes.{node_at}
use Rattle.parse.specs.Text.{node_in, taken, text_from}
use Rattle.parse.specs.Text as text
use Rattle.parse.specs.Reading.{Refused, joined, high, kept, read_from, answer}

module _ (wish : Bool) (s : List ℕ) (at : ℕ) where
  -- what the tests leave of `read_from`
  pub too_long : 255 < length s → read_from wish s at ≡ Refused (TooLong 255)
  unfolding read_from
  too_long h = rw (lt-ltb 255 (length s) h)

  pub not_low : (i : ℕ) → length s ≤ 255 → i ≡ high s 0 → i < length s → read_from wish s at ≡ Refused (NotAscii i)
  unfolding read_from
  not_low i h e k = rw (le-ltb 255 (length s) h, ← e, lt-ltb i (length s) k)

  pub low : (i : ℕ) → length s ≤ 255 → i ≡ high s 0 → length s ≤ i → read_from wish s at ≡ kept (joined (text_from wish s at))
  unfolding read_from
  low i h e k = rw (le-ltb 255 (length s) h, ← e, le-ltb i (length s) k)

  -- past the end of the text
  pub beyond : length s < at → text_from wish s at ≡ text.Refused (UnexpectedEnding at)
  unfolding text_from node_in taken node_at skip
  beyond h = let l : length s ≤ at = omega arith in rw (drop_of_length-le s l, drop_of_length-le s l)

  -- the same, answered
  pub too_long_answered : 255 < length s → Err (TooLong 255) ≡ answer (read_from wish s at)
  unfolding answer
  too_long_answered h = rw (too_long h)

  module _ (i : ℕ) (short : length s ≤ 255) (found : i ≡ high s 0) where
    pub not_low_answered : i < length s → Err (NotAscii i) ≡ answer (read_from wish s at)
    unfolding answer
    not_low_answered h = rw (not_low i short found h)

    pub low_answered : length s ≤ i → answer (kept (joined (text_from wish s at))) ≡ answer (read_from wish s at)
    low_answered h = ap answer (sym (low i short found h))

    pub beyond_answered : length s ≤ i → length s < at → Err (UnexpectedEnding at) ≡ answer (read_from wish s at)
    unfolding joined kept answer
    beyond_answered h k = rw (low i short found h, beyond k)

pub ruleset read_laws = (too_long_answered, not_low_answered, low_answered, beyond_answered)
