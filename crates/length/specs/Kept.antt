-- What the code keeps of a run of digits: a number up to a bound beyond which the port takes none, and places in place of lists.
use Rattle.std.specs.Prelude.{ℕ, ◌+◌, ◌≤◌, min, List, ◌≡◌, Result, Ok, Err, length, drop}
use Rattle.length.specs.Literals.{digits, number, sign}
use Rattle.length.specs.declared.Digits.{Digits}
use Rattle.length.specs.declared.Exponent.{Exponent}
use Rattle.length.specs.declared.Sign.{Sign}

-- the digits from `at` on, after those of the number v
pub record Took (t : List ℕ) (at v most : ℕ) (r : Digits) : Type 0 where
  pub value : r.value ≡ min (number v (digits (drop at t)).front) most
  pub count : r.next ≡ at + length (digits (drop at t)).front
  pub rest : drop r.next t ≡ (digits (drop at t)).rest
  pub inside : r.next ≤ length t

pub record Signs (t : List ℕ) (at : ℕ) (r : Sign) : Type 0 where
  pub minus : r.minus ≡ (sign (drop at t)).minus
  pub rest : drop r.next t ≡ (sign (drop at t)).rest
  pub from : at ≤ r.next
  pub inside : r.next ≤ length t

-- an exponent, or what is none, its number up to 1000
abbrev pub capped : Exponent → Exponent
capped x = record { minus = x.minus; value = min x.value 1000; count = x.count }

unfoldable pub kept : Result Exponent Exponent → Result Exponent Exponent
kept (Ok x) = Ok (capped x)
kept (Err x) = Err (capped x)
