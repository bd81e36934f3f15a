-- A node that was read holds a double and no nan, without the wish no infinity. A letter's is one of the table's, and antt computes the test of each. A
-- literal's value is an infinity, or is rounded once, since its digits are a double exactly, and is finite. Assumes nothing.
use Rattle.std.specs.Prelude.{Option, Some, None, Result, Ok, Err}
use Rattle.std.specs.Option.{IfSome}
use Prim.Native.Nat.{ℕ, suc, ◌+◌, ◌-◌, ◌^◌, ◌≤◌, ◌<◌}
use Prim.Native.Char.{code}
use mathlib.Core.Bool.{Bool, true, false, not, ◌||◌, true≢false}
use mathlib.Core.List.{List, [], ◌∷◌, ◌++◌}
use mathlib.Core.Path.{◌≡◌, refl}
use native.Mathlib.Omega.{arith}
use borrow.Author.Tests.{ltb-false}
use lib.Dec.{T, ltb, eqb}
use lib.IntN.{ℤ, pos, negsuc}
use lib.Ieee.{Float, nan, inf, fin, binary64, neg, fits, is_nan, of_bits, add, sub, mul, div}
use lib.Ieee.Fits.{inf-fits, neg-fits, mul-fits, div-fits}
use lib.Ieee.Scale.{finite}
use lib.ListN.{length, take}
use Rattle.float.specs.Pick.{pick}
use Rattle.float.specs.Numbers.{whole}
use Rattle.float.specs.Constants.{R2, R3, R5}
use Rattle.float.specs.Root.{root_of}
use Rattle.float.specs.Decimal as Decimal
use Rattle.float.specs.Decimal.{signed, in_range, decimal_of}
use Rattle.float.proofs.FiniteValues.{value_finite}
use Rattle.cd.specs.Letters.{Entry, letters, find, letter_of}
use Rattle.cd.specs.declared.CdError.{CdError}
use Rattle.cd.specs.declared.CdError.TheVariants.{InfiniteLength}
use Rattle.cd.specs.declared.Node.{Node}
use Rattle.cd.specs.declared.Node.TheVariants.{Unringed, Ringed, Snub}
use Rattle.cd.specs.declared.NodeRef.{NodeRef}
use Rattle.scan.specs.Ascii.{ascii}
use Rattle.scan.specs.Bytes.{is, within}
use Rattle.length.specs.Literals.{digits, number, fraction, sign, exponent, power, length_of, judged, decimal, is_word, unsigned, literal_of}
use Rattle.length.specs.declared.Exponent.{Exponent}
use Rattle.length.specs.declared.Length.{Length}
use Rattle.length.specs.declared.Length.TheVariants.{Value, Infinite, NoNumber, Nan, Range}
use Rattle.length.proofs.Numbers.{fifteen_digits}
use Rattle.node.specs.Nodes.{Read, closing, last_byte, length_node, length_at, letter_at, reference_at, letter_node, node_at}
use Rattle.node.specs.declared.NodeRead.TheVariants.{Added, Referred}
use Rattle.lexicon.specs.All.{All, nil, cons}

-- a double, not nan, and without the wish no infinity
pub record IsLength (wish : Bool) (v : Float) : Type 0 where
  pub double : T (fits binary64 v)
  pub number : is_nan v ≡ false
  pub unwished : wish ≡ false → finite v ≡ true

pub data Sound (wish : Bool) : Node → Type 0 where
  unringed : Sound wish Unringed
  ringed : {v : Float} → IsLength wish v → Sound wish (Ringed v)
  snub : {v : Float} → IsLength wish v → Sound wish (Snub v)

-- whatever is wished
finite_length : {wish : Bool} (v : Float) → T (fits binary64 v) → T (finite v) → IsLength wish v
unfolding is_nan
finite_length nan f h = absurd h
finite_length (inf s) f h = absurd h
finite_length (fin s m e) f h = record { double = f; number = refl; unwished = λ u. refl }

-- what is chosen has the property, if both are known to have it, or the first where the test holds
pub picked : {A : Type 0} (P : A → Type 0) {x y : A} (t : Bool) → P x → P y → P (pick t x y)
picked P true f g = f
picked P false f g = g

pub tested : {A : Type 0} (P : A → Type 0) {x y : A} (t : Bool) → (t ≡ true → P x) → P y → P (pick t x y)
tested P true f g = f refl
tested P false f g = g

-- ---- a letter

ring : {wish : Bool} {v : Float} → T (fits binary64 v) → T (finite v) → Sound wish (Ringed v)
ring {v = v} f h = ringed (finite_length v f h)

-- the table's nodes, o and s the first
letters_sound : {wish : Bool} → All (λ (e : Entry). Sound wish e.node) letters
unfolding letters whole R2 R3 R5 root_of of_bits add sub mul div fits
letters_sound =
    cons unringed (cons (snub (finite_length _ tt tt)) (
    cons (ring tt tt) (cons (ring tt tt) (cons (ring tt tt) (cons (ring tt tt) (cons (ring tt tt) (cons (ring tt tt) (
    cons (ring tt tt) (cons (ring tt tt) (cons (ring tt tt) (cons (ring tt tt) (cons (ring tt tt) (cons (ring tt tt) (
    cons (ring tt tt) (cons (ring tt tt) (cons (ring tt tt) (cons (ring tt tt) (cons (ring tt tt) nil))))))))))))))))))

-- if a letter stands for a node, that is sound
find_sound : (wish : Bool) (es : List Entry) (b : ℕ) → All (λ (e : Entry). Sound wish e.node) es → IfSome (find es b) (Sound wish)
unfolding find
find_sound wish [] b nil = tt
find_sound wish (e ∷ es) b (cons h hs) = picked (λ o. IfSome o (Sound wish)) (eqb b (code e.letter)) h (find_sound wish es b hs)

letter_sound : (wish : Bool) (b : ℕ) → IfSome (letter_of b) (Sound wish)
unfolding letter_of
letter_sound wish b = find_sound wish letters b letters_sound

-- ---- a length

value_fits : (w : ℕ) (p : ℤ) → T (fits binary64 (Decimal.value w p))
unfolding Decimal.value
value_fits w (pos k) = mul-fits binary64 (whole w) (whole (10 ^ k))
value_fits w (negsuc k) = div-fits binary64 (whole w) (whole (10 ^ suc k))

signed_length : {wish : Bool} (minus : Bool) (v : Float) → T (fits binary64 v) → T (finite v) → IsLength wish (signed minus v)
unfolding signed neg
signed_length true nan f h = absurd h
signed_length true (inf s) f h = absurd h
signed_length true (fin s m e) f h = finite_length (fin (not s) m e) (neg-fits binary64 (fin s m e) f) tt
signed_length false v f h = finite_length v f h

-- if a literal has a value, that is a length; an infinity is one with the wish
pub data SoundLength (wish : Bool) : Length → Type 0 where
  value : {v : Float} → IsLength wish v → SoundLength wish (Value v)
  infinite : {v : Float} → IsLength true v → finite v ≡ false → SoundLength wish (Infinite v)
  no_number : SoundLength wish NoNumber
  not_a_number : SoundLength wish Nan
  range : SoundLength wish Range

signed_infinite : {wish : Bool} (minus : Bool) → SoundLength wish (Infinite (signed minus (inf false)))
unfolding signed neg is_nan
signed_infinite true = infinite (record { double = inf-fits binary64 true; number = refl; unwished = λ u. absurd (true≢false u) }) refl
signed_infinite false = infinite (record { double = inf-fits binary64 false; number = refl; unwished = λ u. absurd (true≢false u) }) refl

-- if a node was read, it is sound
pub data SoundRead (wish : Bool) : Read → Type 0 where
  added : {n : Node} {next : ℕ} → Sound wish n → SoundRead wish (Ok (Added n, next))
  referred : {r : NodeRef} {next : ℕ} → SoundRead wish (Ok (Referred r, next))
  refused : {e : CdError} → SoundRead wish (Err e)

module _ (wish : Bool) where
  decimal_of_sound : (w : ℕ) (p : ℤ) (minus : Bool) → w ≤ 2 ^ 53 → SoundLength wish (length_of (decimal_of w p minus))
  unfolding decimal_of length_of
  decimal_of_sound w p minus h =
      tested (λ (l : Option Float). SoundLength wish (length_of l)) (in_range p)
      (λ r. value (signed_length minus (Decimal.value w p) (value_fits w p) (value_finite w p h r)))
      range

  judged_sound : (minus : Bool) (n w f : ℕ) (x : Result Exponent Exponent) → (n ≤ 15 → w < 10 ^ 15) → SoundLength wish (judged minus n w f x)
  unfolding judged
  judged_sound minus n w f (Err x) h = no_number
  judged_sound minus n w f (Ok x) h = picked (SoundLength wish) (eqb n 0) no_number (counted (ltb 15 n) refl)
    where
      counted : (t : Bool) → ltb 15 n ≡ t → SoundLength wish (pick (t || ltb 3 x.count) Range (length_of (decimal_of w (power x.minus x.value f) minus)))
      counted true e = range
      counted false e =
          let small : w ≤ 2 ^ 53 = omega (arith, h (ltb-false 15 n e)) in
          picked (SoundLength wish) (ltb 3 x.count) range (decimal_of_sound w (power x.minus x.value f) minus small)

  unsigned_sound : (minus : Bool) (t : List ℕ) → SoundLength wish (unsigned minus t)
  unfolding unsigned decimal
  unsigned_sound minus t =
      let a = digits t in
      let b = fraction a.rest in
      let ds = a.front ++ b.front in
      picked (SoundLength wish) (is_word t (ascii "inf") || is_word t (ascii "infinity")) (signed_infinite minus)
      (picked (SoundLength wish) (is_word t (ascii "nan")) not_a_number (judged_sound minus (length ds) (number 0 ds) (length b.front) (exponent b.rest) (fifteen_digits t)))

  pub literal_sound : (t : List ℕ) → SoundLength wish (literal_of t)
  unfolding literal_of
  literal_sound t = unsigned_sound (sign t).minus (sign t).rest

  -- ---- a node

  infinite_sound : (t : Bool) {v : Float} (last next : ℕ) → IsLength true v → SoundRead t (pick t (Ok (Added (Ringed v), next)) (Err (InfiniteLength last)))
  infinite_sound true last next h = added (ringed h)
  infinite_sound false last next h = refused

  length_node_sound : {l : Length} (last next : ℕ) → SoundLength wish l → SoundRead wish (length_node wish l last next)
  unfolding length_node
  length_node_sound last next (value h) = added (ringed h)
  length_node_sound last next (infinite h i) = infinite_sound wish last next h
  length_node_sound last next no_number = refused
  length_node_sound last next not_a_number = refused
  length_node_sound last next range = refused

  letter_node_sound : (l : Option Node) (at : ℕ) → IfSome l (Sound wish) → SoundRead wish (letter_node l at)
  unfolding letter_node
  letter_node_sound (Some n) at h = added h
  letter_node_sound None at h = refused

  letter_at_sound : (bs : List ℕ) (at : ℕ) (negative : Bool) → SoundRead wish (letter_at bs at negative)
  unfolding letter_at
  letter_at_sound [] at negative = refused
  letter_at_sound (b ∷ bs) at negative = picked (SoundRead wish) (within (code "a") (code "z") b) referred refused

  reference_sound : (bs : List ℕ) (at : ℕ) → SoundRead wish (reference_at bs at)
  unfolding reference_at
  reference_sound [] at = refused
  reference_sound (b ∷ bs) at = picked (SoundRead wish) (is "-" b) (letter_at_sound bs (at + 1) true) (letter_at_sound (b ∷ bs) at false)

  length_sound : (bs : List ℕ) (at : ℕ) → SoundRead wish (length_at wish bs at)
  unfolding length_at
  length_sound bs at =
      let e = closing bs at in
      picked (SoundRead wish) (ltb e (at + length bs)) (length_node_sound (last_byte at e) (e + 1) (literal_sound (take (e - at) bs))) refused

  pub node_sound : (bs : List ℕ) (at : ℕ) → SoundRead wish (node_at wish bs at)
  unfolding node_at
  node_sound [] at = refused
  node_sound (b ∷ bs) at =
      picked (SoundRead wish) (is "(" b) (length_sound bs (at + 1)) (picked (SoundRead wish) (is "*" b) (reference_sound bs (at + 1)) (letter_node_sound (letter_of b) at (letter_sound wish b)))
