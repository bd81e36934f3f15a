-- Laws of the exponent at `at`: what the code keeps of it at an e, with what it took after that, at another byte and at the end. Assumes nothing.
use Prim.Native.Nat.{ℕ, ◌+◌, ◌-◌, ◌≤◌, ◌<◌}
use mathlib.Core.Bool.{true, false, not, ◌&&◌, ◌||◌, and-false}
use mathlib.Core.List.{List, [], ◌∷◌}
use mathlib.Core.Logic.{◌⊎◌, ⊎_elim}
use mathlib.Core.Path.{◌≡◌}
use native.Mathlib.Omega.{arith}
use lib.Dec.{ltb, eqb}
use lib.ListN.{length, get_or, drop, drop_of_length-le}
use borrow.Author.Tests.{lt-ltb, le-ltb, eq-eqb, ne_eqb}
use Rattle.std.specs.Prelude.{Result, Ok, Err, IfOk, IfErr}
use Rattle.scan.specs.Bytes.{is}
use Rattle.length.specs.Literals.{digits, is_empty, exponent}
use Rattle.length.specs.Kept.{Took, Signs, kept}
use Rattle.length.specs.declared.Digits.{Digits}
use Rattle.length.specs.declared.Exponent.{Exponent}
use Rattle.length.specs.declared.Sign.{Sign}
use Rattle.scan.proofs.Rest.{drop_at}
use Rattle.length.proofs.Ending.{empty_at_end}

pub kept_small : (x : Result Exponent Exponent) → IfOk (kept x) (λ y. y.value ≤ 1000)
unfolding kept
kept_small (Ok x) = omega arith
kept_small (Err x) = tt

pub refused_small : (x : Result Exponent Exponent) → IfErr (kept x) (λ y. y.value ≤ 1000)
unfolding kept
refused_small (Ok x) = tt
refused_small (Err x) = omega arith

digits_take_places : (n : ℕ) (ds : List ℕ) → ltb n (n + length ds) ≡ not (is_empty ds)
unfolding is_empty
digits_take_places n [] = le-ltb n (n + 0) (omega arith)
digits_take_places n (d ∷ ds) = lt-ltb n (n + length (d ∷ ds)) (omega arith)

module _ (t : List ℕ) (at : ℕ) where
  -- at an e: what it took after that, an exponent if that is one and all
  module _ (g : Sign) (d : Digits) (h : at < length t) (e : (get_or t at 0 ≡ 101) ⊎ (get_or t at 0 ≡ 69)) (s : Signs t (at + 1) g) (k : Took t g.next 0 1000 d) where
    letter : is "e" (get_or t at 0) || is "E" (get_or t at 0) ≡ true
    letter = ⊎_elim (λ e. rw e) (λ e. rw e) e

    whole : not (is_empty (digits (drop g.next t)).front) && is_empty (digits (drop g.next t)).rest ≡ ltb g.next d.next && eqb d.next (length t)
    whole = rw (empty_at_end t d.next k.inside, k.rest, k.count, digits_take_places)

    count : d.next - g.next ≡ length (digits (drop g.next t)).front
    count = omega (arith, k.count)

    pub exponent_at_e : g.next < d.next → d.next ≡ length t → Ok (record { minus = g.minus; value = d.value; count = d.next - g.next }) ≡ kept (exponent (drop at t))
    unfolding exponent kept
    exponent_at_e p q = rw (drop_at t at h, letter, ← s.rest, whole, lt-ltb _ _ p, eq-eqb _ _ q, count, s.minus, k.value)

    pub no_exponent_at_e : (d.next ≤ g.next) ⊎ (d.next ≡ length t → ⊥) → Err (record { minus = g.minus; value = d.value; count = d.next - g.next }) ≡ kept (exponent (drop at t))
    unfolding exponent kept
    no_exponent_at_e n =
        let part : ltb g.next d.next && eqb d.next (length t) ≡ false = ⊎_elim (λ p. rw (le-ltb g.next d.next p)) (λ q. rw (ne_eqb d.next (length t) q, and-false)) n in
        rw (drop_at t at h, letter, ← s.rest, whole, part, count, s.minus, k.value)

  pub exponent_at_other : at < length t → (get_or t at 0 ≡ 101 → ⊥) → (get_or t at 0 ≡ 69 → ⊥) → Err (record { minus = false; value = 0; count = 0 }) ≡ kept (exponent (drop at t))
  unfolding exponent kept
  exponent_at_other h n m = rw (drop_at t at h, ne_eqb _ 101 n, ne_eqb _ 69 m)

  pub exponent_at_end : length t ≤ at → Ok (record { minus = false; value = 0; count = 0 }) ≡ kept (exponent (drop at t))
  unfolding exponent kept
  exponent_at_end h = rw (drop_of_length-le t h)

pub ruleset exponent_laws = (exponent_at_e, no_exponent_at_e, exponent_at_other, exponent_at_end)
