-- What the steps that read an edge keep and answer: an open part whose digits, if it has any, are a number; the edge in lowest terms. No public promise leans on
-- this file: parse/specs/Reading.antt has K2's sentence.
use Rattle.std.specs.Prelude.{ℕ, true, Option, Some, None, Result, Ok, Err}
use Rattle.cd.specs.Edges.{reduced}
use Rattle.cd.specs.declared.CdError.{CdError}
use Rattle.cd.specs.declared.Edge.{Edge}
use Rattle.scan.specs.Edges.{Part, empty, Read}

abbrev pub open_part : Option ℕ → Part
open_part None = empty
open_part (Some v) = record { value = v; some = true }

unfoldable pub kept : Read → Read
unfolding reduced
kept (Ok x) = Ok (reduced x.0, x.1)
kept (Err r) = Err r

unfoldable pub kept_if_any : Result (Option (Edge × ℕ)) CdError → Result (Option (Edge × ℕ)) CdError
unfolding reduced
kept_if_any (Ok None) = Ok None
kept_if_any (Ok (Some x)) = Ok (Some (reduced x.0, x.1))
kept_if_any (Err r) = Err r
