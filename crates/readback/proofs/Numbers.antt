-- The number that bytes spell, byte by byte, and so as the library reads it. Assumes nothing.
use Rattle.std.specs.Int.{w32, w64, from_be_bytes}
use mathlib.Core.List.{List, [], ◌∷◌, ◌++◌}
use mathlib.Core.Path.{◌≡◌, refl, ap, ◌∙◌}
use Prim.Native.Nat.{ℕ, zero, suc, ◌+◌, ◌*◌, ◌^◌, ◌≤◌, ◌<◌}
use native.Mathlib.Omega.{arith}
use lib.ListN.{length, get_or, take, drop, length-append, length-drop}
use lib.Pow.{pow-add}
use lib.Seq.{length-take-le, take_all, take-suc}
use Rattle.filing.specs.Bytes.{value}
use Rattle.filing.specs.Readable.{number_at}

value_append : (a b : List ℕ) → value (a ++ b) ≡ value a * 256 ^ length b + value b
unfolding value
value_append [] b = omega arith
value_append (x ∷ a) b = rw (length-append a b, pow-add 256 (length a) (length b), value_append a b) (omega arith)

-- a byte more
more : (bs : List ℕ) (i j : ℕ) → j ≡ suc i → i < length bs → value (take i bs) * 256 + get_or bs i 0 ≡ value (take j bs)
unfolding value
more bs i j e h = rw (e, take-suc bs i 0 h, value_append (take i bs) (get_or bs i 0 ∷ [])) (omega arith)

none : (bs : List ℕ) → zero ≡ value (take 0 bs)
unfolding value
none bs = refl

module _ (l : List ℕ) (k : ℕ) where
  pub four_read : k + 4 ≤ length l → from_be_bytes w32 (take 4 (drop k l)) ≡ number_at 4 l k
  unfolding number_at
  four_read h =
      let bs = take 4 (drop k l) in
      let long : length bs ≡ 4 = length-take-le 4 (drop k l) (simp length-drop (omega arith)) in
      let next : (i j : ℕ) → j ≡ suc i → i < 4 → value (take i bs) * 256 + get_or bs i 0 ≡ value (take j bs) = λ i j e h. more bs i j e (omega arith) in
      omega (arith, none bs, next 0 1 refl (omega arith), next 1 2 refl (omega arith), next 2 3 refl (omega arith), next 3 4 refl (omega arith)) ∙ ap value (take_all 4 bs (omega arith))

  pub eight_read : k + 8 ≤ length l → from_be_bytes w64 (take 8 (drop k l)) ≡ number_at 8 l k
  unfolding number_at
  eight_read h =
      let bs = take 8 (drop k l) in
      let long : length bs ≡ 8 = length-take-le 8 (drop k l) (simp length-drop (omega arith)) in
      let next : (i j : ℕ) → j ≡ suc i → i < 8 → value (take i bs) * 256 + get_or bs i 0 ≡ value (take j bs) = λ i j e h. more bs i j e (omega arith) in
      omega (arith, none bs, next 0 1 refl (omega arith), next 1 2 refl (omega arith), next 2 3 refl (omega arith), next 3 4 refl (omega arith), next 4 5 refl (omega arith), next 5 6 refl (omega arith), next 6 7 refl (omega arith), next 7 8 refl (omega arith))
      ∙ ap value (take_all 8 bs (omega arith))
