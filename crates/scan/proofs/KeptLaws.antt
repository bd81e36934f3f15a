-- What an answer in lowest terms tells of the edge as typed. Assumes nothing.
use Prim.Native.Nat.{ℕ}
use mathlib.Core.Path.{◌≡◌, refl, sym}
use native.Mathlib.Omega.{arith}
use Rattle.std.specs.Prelude.{Option, Some, None, Result, Ok, Err}
use Rattle.std.proofs.lemmas.Option.{some_pair_parts}
use Rattle.cd.specs.Edges.{reduced}
use Rattle.cd.specs.declared.CdError.{CdError}
use Rattle.cd.specs.declared.Edge.{Edge}
use Rattle.scan.specs.Edges.{Read, if_any}
use Rattle.scan.specs.Kept.{kept, kept_if_any}

abbrev Optional : Type 0
Optional = Result (Option (Edge × ℕ)) CdError

pub kept_any : (x : Read) → kept_if_any (if_any x) ≡ if_any (kept x)
unfolding kept kept_if_any
kept_any (Ok x) = refl
kept_any (Err r) = refl

pub kept_none : (x : Optional) → kept_if_any x ≡ Ok None → x ≡ Ok None
unfolding kept_if_any
kept_none (Ok None) h = refl
kept_none (Ok (Some y)) h = cc
kept_none (Err r) h = cc

pub kept_refused : (x : Optional) (r : CdError) → kept_if_any x ≡ Err r → x ≡ Err r
unfolding kept_if_any
kept_refused (Ok None) r h = cc
kept_refused (Ok (Some y)) r h = cc
kept_refused (Err q) r h = h

-- the edge as typed
pub record Typed (x : Optional) (e : Edge) (next : ℕ) : Type 0 where
  pub edge : Edge
  pub read : x ≡ Ok (Some (edge, next))
  pub reduces : e ≡ reduced edge

pub kept_read : (x : Optional) (e : Edge) (next : ℕ) → kept_if_any x ≡ Ok (Some (e, next)) → Typed x e next
unfolding kept_if_any
kept_read (Ok None) e next h = absurd (let z : ◌≡◌ {A = ℕ} 0 1 = cc in omega arith)
kept_read (Ok (Some (d, to))) e next h =
    let same = some_pair_parts (reduced d) e to next (cc) in
    record { edge = d; read = cc same.1; reduces = sym same.0 }
kept_read (Err q) e next h = absurd (let z : ◌≡◌ {A = ℕ} 0 1 = cc in omega arith)
