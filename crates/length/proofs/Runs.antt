-- Laws of a run of digits.
--     number-kept                 a number goes on alike, up to a bound, from a number and from that number up to the bound
--     number_append               the number of two runs
--     took-digit                  a digit at i, and what the code took from i + 1 on, are what it took from i on
--     took-at-other, took-at-end  it took nothing at another byte, and nothing at the end
-- Assumes nothing.
use Prim.Native.Nat.{ℕ, ◌+◌, ◌*◌, ◌≤◌, ◌<◌, min}
use mathlib.Core.Bool.{true, false}
use mathlib.Core.List.{List, [], ◌∷◌, ◌++◌}
use mathlib.Core.Path.{◌≡◌, refl, sym, ◌∙◌}
use native.Mathlib.Omega.{arith}
use lib.ListN.{length, get_or, drop, drop_of_length-le}
use Rattle.scan.specs.Bytes.{is_digit, digit}
use Rattle.length.specs.Literals.{digits, number}
use Rattle.length.specs.Kept.{Took}
use Rattle.length.specs.declared.Digits.{Digits}
use Rattle.scan.proofs.Rest.{drop_at}

grown_kept : (v d m : ℕ) → min (min v m * 10 + d) m ≡ min (v * 10 + d) m
grown_kept v d m = omega arith

pub number_kept : (v m : ℕ) (ds : List ℕ) → min (number (min v m) ds) m ≡ min (number v ds) m
unfolding number
number_kept v m [] = omega arith
number_kept v m (d ∷ ds) = sym (number_kept (min v m * 10 + digit d) m ds) ∙ rw (grown_kept v (digit d) m) (number_kept (v * 10 + digit d) m ds)

pub number_append : (v : ℕ) (xs ys : List ℕ) → number v (xs ++ ys) ≡ number (number v xs) ys
unfolding number
number_append v [] ys = refl
number_append v (x ∷ xs) ys = number_append (v * 10 + digit x) xs ys

module _ (t : List ℕ) (i v most : ℕ) where
  pub took_digit : (r : Digits) → i < length t → is_digit (get_or t i 0) ≡ true → Took t (i + 1) (min (v * 10 + digit (get_or t i 0)) most) most r → Took t i v most r
  unfolding digits number
  took_digit r h e k =
      let d : digits (drop i t) ≡ record { front = get_or t i 0 ∷ (digits (drop (i + 1) t)).front; rest = (digits (drop (i + 1) t)).rest } = rw (drop_at t i h, e) in
      record { value = k.value ∙ rw (d, number_kept); count = k.count ∙ rw d (omega arith); rest = k.rest ∙ rw d; inside = k.inside }

  took_nothing : digits (drop i t) ≡ record { front = []; rest = drop i t } → i ≤ length t → v ≤ most → Took t i v most (record { value = v; next = i })
  unfolding number
  took_nothing d h p = record { value = rw d (omega arith); count = rw d (omega arith); rest = rw d; inside = h }

  pub took_at_other : i < length t → is_digit (get_or t i 0) ≡ false → v ≤ most → Took t i v most (record { value = v; next = i })
  unfolding digits
  took_at_other h e = took_nothing (rw (drop_at t i h, e)) (omega arith)

  pub took_at_end : i ≤ length t → length t ≤ i → v ≤ most → Took t i v most (record { value = v; next = i })
  unfolding digits
  took_at_end h p = took_nothing (rw (drop_of_length-le t p)) h
