-- Laws of a decimal number, from what the code took of it: the digits before the point, and those after it, where there is one. Assumes nothing.
use Prim.Native.Nat.{ℕ, ◌+◌, ◌-◌, ◌^◌, ◌≤◌, ◌<◌, min}
use mathlib.Core.Bool.{Bool}
use mathlib.Core.List.{List, [], ◌++◌, append-nil}
use mathlib.Core.Path.{◌≡◌, refl, sym, ap, ◌∙◌}
use native.Mathlib.Omega.{arith}
use lib.ListN.{length, get_or, drop, drop_of_length-le, length-append}
use borrow.Author.Tests.{eq-eqb, ne_eqb}
use Rattle.std.specs.Prelude.{Result}
use Rattle.length.specs.Literals.{Run, digits, number, fraction, exponent, judged, decimal}
use Rattle.length.specs.Kept.{Took, kept}
use Rattle.length.specs.declared.Digits.{Digits}
use Rattle.length.specs.declared.Exponent.{Exponent}
use Rattle.length.proofs.Exponents.{kept_small}
use Rattle.length.proofs.Bounds.{judged_kept}
use Rattle.scan.proofs.Rest.{drop_at}
use Rattle.length.proofs.Runs.{number_kept, number_append}
use Rattle.length.proofs.Numbers.{fifteen_digits}

module _ (t : List ℕ) (i : ℕ) where
  fraction_at_point : i < length t → get_or t i 0 ≡ 46 → fraction (drop i t) ≡ digits (drop (i + 1) t)
  unfolding fraction
  fraction_at_point h e = rw (drop_at t i h, eq-eqb _ 46 e)

  pub fraction_at_other : i < length t → (get_or t i 0 ≡ 46 → ⊥) → fraction (drop i t) ≡ record { front = []; rest = drop i t }
  unfolding fraction
  fraction_at_other h e = rw (drop_at t i h, ne_eqb _ 46 e)

  pub fraction_at_end : length t ≤ i → fraction (drop i t) ≡ record { front = []; rest = drop i t }
  unfolding fraction
  fraction_at_end h = rw (drop_of_length-le t h)

-- b being the digits after the point: the number is judged by what is kept of it
decimal_of_kept : (minus : Bool) (s : List ℕ) (b : Run) (n w f : ℕ) (x : Result Exponent Exponent) → fraction (digits s).rest ≡ b → n ≡ length ((digits s).front ++ b.front) → w ≡ min (number 0 ((digits s).front ++ b.front)) (10 ^ 15) → f ≡ length b.front → x ≡ kept (exponent b.rest) → judged minus n w f x ≡ decimal minus s
unfolding decimal
decimal_of_kept minus s b n w f x eb en ew ef ex =
    let ds = (digits s).front ++ b.front in
    rw (eb, en, ew, ef, ex)
    (judged_kept minus (length ds) (number 0 ds) (length b.front) (exponent b.rest) (rw length-append (omega arith)) (rw eb at (fifteen_digits s)))

module _ (minus : Bool) (t : List ℕ) (at : ℕ) (a : Digits) (k : Took t at 0 (10 ^ 15) a) (x : Result Exponent Exponent) where
  pub decimal_plain : fraction (drop a.next t) ≡ record { front = []; rest = drop a.next t } → x ≡ kept (exponent (drop a.next t)) → judged minus (a.next - at) a.value 0 x ≡ decimal minus (drop at t)
  decimal_plain e q =
      decimal_of_kept minus (drop at t) (record { front = []; rest = drop a.next t }) _ _ 0 x (ap fraction (sym k.rest) ∙ e)
      (rw append-nil (omega (arith, k.count)))
      (rw append-nil k.value)
      refl
      q

  pub decimal_pointed : (b : Digits) → a.next < length t → get_or t a.next 0 ≡ 46 → Took t (a.next + 1) a.value (10 ^ 15) b → x ≡ kept (exponent (drop b.next t)) → judged minus (a.next - at + (b.next - (a.next + 1))) b.value (b.next - (a.next + 1)) x ≡ decimal minus (drop at t)
  decimal_pointed b h e j q =
      decimal_of_kept minus (drop at t) (digits (drop (a.next + 1) t)) _ _ _ x (ap fraction (sym k.rest) ∙ fraction_at_point t a.next h e)
      (rw length-append (omega (arith, k.count, j.count)))
      (j.value ∙ rw (k.value, number_kept, number_append))
      (omega (arith, j.count))
      (rw j.rest at q)

pub ruleset decimal_laws = (kept_small, fraction_at_other, fraction_at_end, decimal_plain, decimal_pointed)
