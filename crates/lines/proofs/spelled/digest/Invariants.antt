-- `lines::spelled::digest` meets its contract: what is left by the modulus never overflows.
use Rattle.std.proofs.Common.{◌<◌}
use Rattle.lines.proofs.spelled.digest.Given as goal

abbrev pub invariant-loop-b : goal.invariant-loop-b
invariant-loop-b l = l.h < 4294967291
