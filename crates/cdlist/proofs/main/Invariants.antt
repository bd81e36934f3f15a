-- `cdlist::main` is safe and ends: no contract says what a program reads or writes.
use Rattle.std.proofs.Common.{◌-◌}
use Rattle.cdlist.proofs.main.Given as goal

abbrev pub decreases-loop-from : goal.decreases-loop-from
decreases-loop-from l = l.n - l.from
