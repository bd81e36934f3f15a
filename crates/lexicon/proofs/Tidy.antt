-- What joining stores: edges between nodes that exist, none of them a two, no pair twice. Edges in lowest terms are as tidy as those typed. Assumes nothing.
use mathlib.Core.Bool.{false}
use mathlib.Core.List.{List, [], ◌∷◌, ◌++◌, map, map-append}
use mathlib.Core.Path.{◌≡◌, sym, ◌∙◌, subst}
use Prim.Native.Nat.{ℕ, ◌<◌}
use Rattle.cd.specs.Diagrams.{Stored, is_joined}
use Rattle.cd.specs.Edges.{is_two}
use Rattle.cd.proofs.LowestTerms.{reduced_two}
use Rattle.parse.specs.Reading.{kept_edge}
use Rattle.parse.proofs.KeptEdges.{joined_kept}

-- an edge that can be stored after others: it joins two of n nodes, or one to itself, is no two, and they do not join these
pub record Fresh (n : ℕ) (es : List Stored) (s : Stored) : Type 0 where
  pub first_in : s.first < n
  pub other_in : s.other < n
  pub no_two : is_two s.edge ≡ false
  pub apart : is_joined es s.first s.other ≡ false

-- edges stored one after another
pub data Tidy (n : ℕ) : List Stored → Type 0 where
  none : Tidy n []
  more : {es : List Stored} {s : Stored} → Tidy n es → Fresh n es s → Tidy n (es ++ (s ∷ []))

pub tidy_kept : {n : ℕ} {es : List Stored} → Tidy n es → Tidy n (map kept_edge es)
tidy_kept none = none
tidy_kept {n} (more {es} {s} w f) =
    subst (Tidy n) (sym (map-append kept_edge es (s ∷ []))) (more (tidy_kept w) (record {
      first_in = f.first_in;
      other_in = f.other_in;
      no_two = reduced_two s.edge ∙ f.no_two;
      apart = joined_kept es s.first s.other ∙ f.apart;
    }))
