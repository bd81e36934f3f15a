-- Document 01, "Filing record": bytes and their order.
use Rattle.std.specs.Prelude.{List, [], ◌∷◌, ◌++◌, ◌≡◌, ℕ, zero, suc, ◌+◌, ◌-◌, ◌*◌, ◌/◌, ◌%◌, ◌^◌, ◌<◌, length, take, drop, replicate}

-- "Multi-byte fields are big-endian": a number in k bytes
unfoldable pub bytes : ℕ → ℕ → List ℕ
bytes zero x = []
bytes (suc k) x = x / 256 ^ k % 256 ∷ bytes k x

-- the number that bytes spell
unfoldable pub value : List ℕ → ℕ
value [] = zero
value (b ∷ bs) = b * 256 ^ length bs + value bs

-- g 0, g 1, .., g (n - 1), end to end
unfoldable pub blocks {ℓ} : {A : Type ℓ} → (ℕ → List A) → ℕ → List A
blocks g zero = []
blocks g (suc n) = blocks g n ++ g n

-- "Unused places are zero": a part of w places, of which a list fills the first
unfoldable pub filled : ℕ → List ℕ → List ℕ
filled w l = l ++ replicate (w - length l) 0

-- "byte order (the first differing byte decides)": no greater than. Any lists of numbers are compared so.
infix 50 ◌≼◌
pub data ◌≼◌ : List ℕ → List ℕ → Type 0 where
  ends : {ys : List ℕ} → [] ≼ ys
  less : {x y : ℕ} {xs ys : List ℕ} → x < y → (x ∷ xs) ≼ (y ∷ ys)
  same : {x y : ℕ} {xs ys : List ℕ} → x ≡ y → xs ≼ ys → (x ∷ xs) ≼ (y ∷ ys)

-- a buffer with x written at place k, and all else as it was
unfoldable pub written : ℕ → List ℕ → List ℕ → List ℕ
written k x l = take k l ++ (x ++ drop (k + length x) l)
