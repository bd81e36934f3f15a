-- A test of each number below n, by the library's `all` over a range: where each call decides P of its number and leaves the closure as it was. Assumes nothing.
use mathlib.Core.Bool.{Bool, true, false}
use mathlib.Core.Path.{◌≡◌, refl, ap, ◌∙◌, subst}
use Prim.Native.Nat.{ℕ, ◌<◌}
use native.Mathlib.Omega.{arith}
use denote.Param.Members.{Mut, Called}
use Rattle.std.specs.Prelude.{Option, Some, None, IsTrue}
use Rattle.std.specs.Bool.{MatchBool}
use Rattle.std.specs.Option.{IfSome, IsSomeAnd, option_map}
use Rattle.std.specs.Iterator.Runs.{SomeRun, CallKeepsClosure, AllItemsGive, AnyItemGives}
use Rattle.std.proofs.iter.Yields.{nat_range_steps}
use Rattle.std.proofs.iter.runs.Sources.{range_runs}
use Rattle.cd.specs.Minimal.{Decides}
use Rattle.cd.proofs.Decided.{decides_yes, decides_no, refutes}

module _ {F : Type 0} (g : Mut F (ℕ × Unit {0}) Bool) (f : F) (P : ℕ → Type 0) (n : ℕ)
    (keeps : CallKeepsClosure g f) (decides : (i : ℕ) (b : Bool) → i < n → Called g f (i, tt) b f → Decides (P i) b) where
  passed : (o : Option ℕ) {i : ℕ} → option_map (λ y. y) o ≡ Some i → IfSome o (λ x. Called g f (x, tt) true f) → Called g f (i, tt) true f
  passed None h c = cc
  passed (Some x) {i} h c = let e : x ≡ i = cc in subst (λ y. Called g f (y, tt) true f) e c

  failed : (o : Option ℕ) (a : ℕ) {m : ℕ} → m ≡ n → IfSome o (λ x. (x ≡ a) × (x < m)) → IsSomeAnd o (λ x. Called g f (x, tt) false f) → (x : ℕ) × (x < n) × Called g f (x, tt) false f
  failed None a e b c = absurd c
  failed (Some x) a e b c = (x, rw e at b.1, c)

  pub all_decides : (r : Bool) → SomeRun nat_range_steps (record { start = 0; end = n }) (λ p. MatchBool r (IsTrue p.whole × AllItemsGive p g f true) (AnyItemGives p g f false))
      → Decides ((i : ℕ) → i < n → P i) r
  all_decides true (p, from, (whole, all)) =
      let up = range_runs p p.seen in
      let start : p.from.start ≡ 0 = cc in
      let end : p.from.end ≡ n = cc in
      decides_yes (λ i l. (decides i true l (passed (p.at i) (up.3 i (omega (arith, up.1 whole)) ∙ ap Some (omega arith)) (all keeps i))).only_when refl)
  all_decides false (p, from, any) =
      let (k, l, some) = any keeps in
      let end : p.from.end ≡ n = cc in
      let (x, h, call) = failed (p.at k) _ end ((range_runs p p.seen).2 k) some in
      decides_no (λ all. refutes (decides x false h call) refl (all x h))
