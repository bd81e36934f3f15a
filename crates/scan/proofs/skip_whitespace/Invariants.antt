-- `scan::skip_whitespace` meets its contract. The invariant: skipping from here leads where skipping from `at` leads.
use mathlib.Core.Path.{◌≡◌}
use lib.ListN.{drop}
use Rattle.scan.specs.Spaces.{skip}
use Rattle.scan.proofs.skip_whitespace.Given as goal

abbrev pub invariant-loop-i : goal.invariant-loop-i
invariant-loop-i l = skip (drop l.i l.s) l.i ≡ skip (drop l.at l.s) l.at
