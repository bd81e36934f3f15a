-- The lines of an input one at a time, and blocks of them put together: what blocks write from the first line to the end is what is to be written on all lines.
-- Assumes nothing.
use Prim.Native.Nat.{ℕ, suc, ◌+◌, ◌-◌, ◌<◌}
use mathlib.Core.Bool.{Bool, true, false}
use mathlib.Core.List.{List, [], ◌∷◌, ◌++◌, append_assoc, append-nil}
use mathlib.Core.Path.{◌≡◌, refl, sym, ap, ◌∙◌, subst}
use native.Mathlib.Omega.{arith}
use lib.ListN.{length, take, drop, drop_of_length-le}
use lib.Seq.{drop-drop}
use Rattle.float.specs.Pick.{pick}
use Rattle.scan.specs.Bytes.{is}
use Rattle.scan.proofs.Rest.{drop_at}
use Rattle.lines.specs.Blocks.{IsBlock, Blocks, end, then}
use Rattle.lines.specs.Lines.{lines, begun, line_end, Answered, none, more}

-- ---- the first line

-- how long the first line is
first_length : List ℕ → ℕ
first_length [] = 0
first_length (b ∷ bs) = let r = first_length bs in pick (is "\n" b) 0 (suc r)

end_picked : (t : Bool) (i k r : ℕ) → r ≡ i + 1 + k → pick t i r ≡ i + pick t 0 (suc k)
end_picked true i k r e = omega arith
end_picked false i k r e = omega arith

end_by_length : (l : List ℕ) (i : ℕ) → line_end l i ≡ i + first_length l
unfolding line_end first_length
end_by_length [] i = omega arith
end_by_length (b ∷ bs) i = end_picked (is "\n" b) i (first_length bs) (line_end bs (i + 1)) (end_by_length bs (i + 1))

-- an input that has a byte has a first line, and what is left starts behind its LF
abbrev Splits : List ℕ → Type 0
Splits l = lines l ≡ take (first_length l) l ∷ lines (drop (suc (first_length l)) l)

splits_picked : (t : Bool) (b : ℕ) (bs : List ℕ) → begun b (lines bs) ≡ (b ∷ take (first_length bs) bs) ∷ lines (drop (suc (first_length bs)) bs)
    → pick t ([] ∷ lines bs) (begun b (lines bs)) ≡ take (pick t 0 (suc (first_length bs))) (b ∷ bs) ∷ lines (drop (suc (pick t 0 (suc (first_length bs)))) (b ∷ bs))
splits_picked true b bs e = refl
splits_picked false b bs e = e

splits : (b : ℕ) (bs : List ℕ) → Splits (b ∷ bs)
unfolding lines begun first_length
splits b [] = splits_picked (is "\n" b) b [] refl
splits b (c ∷ cs) = splits_picked (is "\n" b) b (c ∷ cs) (ap (begun b) (splits c cs))

-- from place i on, the first line ends at e
line_at : (s : List ℕ) (i e : ℕ) → i < length s → e ≡ line_end (drop i s) i → lines (drop i s) ≡ take (e - i) (drop i s) ∷ lines (drop (e + 1) s)
line_at s i e h p =
    let k : first_length (drop i s) ≡ e - i = omega (arith, end_by_length (drop i s) i) in
    let n : i + suc (e - i) ≡ e + 1 = omega (arith, end_by_length (drop i s) i) in
    let q : Splits (drop i s) = subst Splits (sym (drop_at s i h)) (splits _ _) in
    rw (k, drop-drop (suc (e - i)) i s, n) at q

-- ---- blocks

module _ {Line : List ℕ → List ℕ → Type 0} where
  answered_append : {ls ms : List (List ℕ)} {xs ys : List ℕ} → Answered Line ls xs → Answered Line ms ys → Answered Line (ls ++ ms) (xs ++ ys)
  answered_append none q = q
  answered_append (more {x = x} {xs = xs} r p) q = rw (append_assoc x xs _) (more r (answered_append p q))

  pub block_none : (s : List ℕ) (from : ℕ) → IsBlock Line s from [] from
  block_none s from = record { these = []; front = refl; answered = none }

  -- one line more, from place i to e
  pub block_line : (s : List ℕ) (from : ℕ) {bytes bytes' : List ℕ} {i e : ℕ} (x : List ℕ) → i < length s → e ≡ line_end (drop i s) i
      → Line (take (e - i) (drop i s)) x → bytes' ≡ bytes ++ x → IsBlock Line s from bytes i → IsBlock Line s from bytes' (e + 1)
  block_line s from {i = i} {e = e} x h p l a b = record {
    these = b.these ++ (take (e - i) (drop i s) ∷ []);
    front = b.front ∙ ap (λ ls. b.these ++ ls) (line_at s i e h p) ∙ sym (append_assoc b.these (take (e - i) (drop i s) ∷ []) _);
    answered = rw a (answered_append b.answered (subst (Answered Line _) (append-nil x) (more l none)));
  }

  -- what blocks write up to the end is what is to be written on all lines from there
  pub blocks_answer : {s : List ℕ} {from : ℕ} {xs : List ℕ} → Blocks Line s from xs → Answered Line (lines (drop from s)) xs
  unfolding lines
  blocks_answer {s} (end h) = rw (drop_of_length-le s h) none
  blocks_answer (then b bs) = rw b.front (answered_append b.answered (blocks_answer bs))

  -- where a line allows one answer, so do lines
  pub answered_once : ((l x y : List ℕ) → Line l x → Line l y → x ≡ y) → {ls : List (List ℕ)} {xs ys : List ℕ} → Answered Line ls xs → Answered Line ls ys → xs ≡ ys
  answered_once once none none = refl
  answered_once once (more {l} {x} {xs = xs} r p) (more {x = y} {xs = ys} q s) =
      let first : x ≡ y = once l x y r q in
      let rest : xs ≡ ys = answered_once once p s in
      cc
