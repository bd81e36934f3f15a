-- `float::cosine::fcos` meets its contract. The invariant: the steps that are left, from the present h, give the whole scheme's answer.
use mathlib.Core.Path.{◌≡◌}
use Rattle.float.specs.Cosine.{steps, cos_of}
use Rattle.float.proofs.cosine.fcos.Given as goal

abbrev pub invariant-loop-k : goal.invariant-loop-k
invariant-loop-k l = steps l.t l.k l.h ≡ cos_of l.a
