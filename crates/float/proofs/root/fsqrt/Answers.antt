-- `float::root::fsqrt` meets its contract: the machine's root is the document's (proofs/MachineRoot.antt).
use mathlib.Core.Path.{sym, ◌∙◌, subst}
use lib.Dec.{T}
use Rattle.float.proofs.MachineRoot.{machine_root}
use Rattle.float.proofs.root.fsqrt.Goals as goal

pub returns : goal.returns
returns c = c.sqrt.ensures.value ∙ machine_root c.args.v (subst T (sym c.well_formed.0.1) tt)
