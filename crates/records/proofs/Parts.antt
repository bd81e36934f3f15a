-- A buffer written into: bytes one after another, blocks of one length, and two lists over two parts of zeros behind a count. Assumes nothing.
use mathlib.Core.List.{List, [], ◌∷◌, ◌++◌, append_assoc}
use mathlib.Core.Path.{◌≡◌, refl, sym, ap, ◌∙◌}
use Prim.Native.Nat.{ℕ, suc, ◌+◌, ◌-◌, ◌*◌, ◌/◌, ◌≤◌, ◌<◌}
use native.Mathlib.Numerals.{add-one}
use native.Mathlib.Omega.{arith}
use lib.ListN.{length, get_or, take, drop, set, replicate, length-replicate, replicate-append-replicate}
use lib.Seq.{length-take-le, take_at, take-suc, drop_at, drop-drop}
use mir.Syntax.{w64}
use Rattle.std.specs.Int.{to_be_bytes}
use Rattle.filing.specs.Bytes.{bytes, blocks, filled, written}
use Rattle.filing.proofs.Bytes.{length_blocks, length_filled, length_written, written_front, written_byte, written_then, written_block}

-- ---- a number

pub eight_bytes : (x : ℕ) → to_be_bytes w64 x ≡ bytes 8 x
unfolding bytes
eight_bytes x = let e : x / 1 ≡ x = omega arith in rw e

-- ---- a list at once, a byte before a list, a block behind others of one length

pub part_written : (k : ℕ) (x l : List ℕ) → take k l ++ (x ++ drop (length x) (drop k l)) ≡ written k x l
unfolding written
part_written k x l = rw (drop-drop (length x) k l)

pub byte_then : (k b : ℕ) (x l : List ℕ) → k < length l → written (k + 1) x (set l k b) ≡ written k (b ∷ x) l
byte_then k b x l h = rw (written_byte k b l h) (written_then k (b ∷ []) x l (omega arith))

pub block_then : (k w : ℕ) (g : ℕ → List ℕ) (i : ℕ) (l : List ℕ) → ((j : ℕ) → j < i → length (g j) ≡ w) → k + w * i ≤ length l
    → written (k + w * i) (g i) (written k (blocks g i) l) ≡ written k (blocks g (i + 1)) l
block_then k w g i l e h = let f = length_blocks g w i e in rw f at (written_block k g i l (rw f h))

-- one byte more of a list
pub put_more : (at : ℕ) (from l : List ℕ) (i : ℕ) → at + length from ≤ length l → i < length from
    → set (written at (take i from) l) (at + i) (get_or from i 0) ≡ written at (take (i + 1) from) l
put_more at from l i h k =
    let e : length (take i from) ≡ i = length-take-le i from (omega arith) in
    let f = length_written at (take i from) l (omega arith) in
    written_byte (at + i) (get_or from i 0) (written at (take i from) l) (omega arith)
    ∙ rw e at (written_then at (take i from) (get_or from i 0 ∷ []) l (omega arith))
    ∙ ap (λ z. written at z l) (sym (take-suc from i 0 k) ∙ ap (λ n. take n from) (sym (add-one i)))

-- ---- zeros written over

abbrev zeros : ℕ → List ℕ
zeros w = replicate w 0

zeros_split : (a b : ℕ) → zeros (a + b) ≡ zeros a ++ zeros b
zeros_split a b = sym (replicate-append-replicate a b 0)

pub zeros_front : (m : ℕ) (l : List ℕ) → replicate m 0 ++ drop m l ≡ written 0 (replicate m 0) l
zeros_front m l = sym (written_front (zeros m) l ∙ ap (λ i. zeros m ++ drop i l) (length-replicate m 0))

pub count_then : (m n : ℕ) (l : List ℕ) → set (written 0 (replicate (suc m) 0) l) 0 n ≡ written 0 (n ∷ replicate m 0) l
count_then m n l = rw (written_front (zeros (suc m)) l, written_front (n ∷ zeros m) l)

written_over : (k : ℕ) (p z x q : List ℕ) → length p ≡ k → length z ≡ length x → written k x (p ++ (z ++ q)) ≡ p ++ (x ++ q)
unfolding written
written_over k p z x q e f =
    rw (take_at p (z ++ q) k e, ← (drop-drop (length x) k (p ++ (z ++ q))), drop_at p (z ++ q) k e, drop_at z q (length x) f)

filled_over : (k w : ℕ) (p x q : List ℕ) → length p ≡ k → length x ≤ w → written k x (p ++ (zeros w ++ q)) ≡ p ++ (filled w x ++ q)
unfolding filled
filled_over k w p x q e h =
    let s : w ≡ length x + (w - length x) = omega arith in
    let z : zeros w ≡ zeros (length x) ++ zeros (w - length x) = ap zeros s ∙ zeros_split (length x) (w - length x) in
    rw z (simp append_assoc (written_over k p (zeros (length x)) x (zeros (w - length x) ++ q) e (length-replicate (length x) 0)))

zeros_written : (a b n : ℕ) (l : List ℕ) → written 0 (n ∷ zeros (a + b)) l ≡ n ∷ (zeros a ++ (zeros b ++ drop (1 + a + b) l))
zeros_written a b n l =
    let e : length (n ∷ zeros (a + b)) ≡ 1 + a + b = simp length-replicate (omega arith) in
    written_front (n ∷ zeros (a + b)) l ∙ ap (λ i. (n ∷ zeros (a + b)) ++ drop i l) e ∙ rw (zeros_split a b, append_assoc)

pub parts_written : (a b n : ℕ) (x y l : List ℕ) → length x ≤ a → length y ≤ b
    → written (1 + a) y (written 1 x (written 0 (n ∷ replicate (a + b) 0) l)) ≡ (n ∷ (filled a x ++ filled b y)) ++ drop (1 + a + b) l
parts_written a b n x y l h k =
    let rest : List ℕ = drop (1 + a + b) l in
    let f : length (n ∷ filled a x) ≡ 1 + a = omega (arith, length_filled a x h) in
    ap (λ z. written (1 + a) y (written 1 x z)) (zeros_written a b n l)
    ∙ ap (written (1 + a) y) (filled_over 1 a (n ∷ []) x (zeros b ++ rest) refl h)
    ∙ filled_over (1 + a) b (n ∷ filled a x) y rest f k ∙ simp append_assoc
