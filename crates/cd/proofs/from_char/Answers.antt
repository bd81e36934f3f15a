-- `cd::from_char` meets its contract: at each letter antt computes the table's entry, the root for k too.
use Prim.Native.Nat.{ℕ}
use mathlib.Core.Path.{sym, ap}
use Rattle.std.specs.Prelude.{Option}
use lib.Ieee.{of_bits, add, sub, mul, div}
use Rattle.float.specs.Numbers.{whole}
use Rattle.float.specs.Constants.{R2, R3, R5}
use Rattle.float.specs.Root.{root_of}
use Rattle.cd.specs.Letters.{letters, find, letter_of}
use Rattle.cd.specs.declared.Node.{Node}
use Rattle.cd.proofs.from_char.Goals as goal

-- the definition, with all that it computes by
computed : ℕ → Option Node
unfolding letter_of letters find whole R2 R3 R5 root_of of_bits add sub mul div
computed b = letter_of b

pub returns-in-115 : goal.returns-in-115
unfolding computed
returns-in-115 c = sym (ap computed c.in-115.is)

pub returns-in-118 : goal.returns-in-118
unfolding computed
returns-in-118 c = sym (ap computed c.in-118.is)

pub returns-in-120 : goal.returns-in-120
unfolding computed
returns-in-120 c = sym (ap computed c.in-120.is)

pub returns-in-113 : goal.returns-in-113
unfolding computed
returns-in-113 c = sym (ap computed c.in-113.is)

pub returns-in-102 : goal.returns-in-102
unfolding computed
returns-in-102 c = sym (ap computed c.in-102.is)

pub returns-in-104 : goal.returns-in-104
unfolding computed
returns-in-104 c = sym (ap computed c.in-104.is)

pub returns-in-107 : goal.returns-in-107
unfolding computed
returns-in-107 c = sym (ap computed c.in-107.is)

pub returns-in-117 : goal.returns-in-117
unfolding computed
returns-in-117 c = sym (ap computed c.in-117.is)

pub returns-in-119 : goal.returns-in-119
unfolding computed
returns-in-119 c = sym (ap computed c.in-119.is)

pub returns-in-70 : goal.returns-in-70
unfolding computed
returns-in-70 c = sym (ap computed c.in-70.is)

pub returns-in-101 : goal.returns-in-101
unfolding computed
returns-in-101 c = sym (ap computed c.in-101.is)

pub returns-in-81 : goal.returns-in-81
unfolding computed
returns-in-81 c = sym (ap computed c.in-81.is)

pub returns-in-100 : goal.returns-in-100
unfolding computed
returns-in-100 c = sym (ap computed c.in-100.is)

pub returns-in-86 : goal.returns-in-86
unfolding computed
returns-in-86 c = sym (ap computed c.in-86.is)

pub returns-in-85 : goal.returns-in-85
unfolding computed
returns-in-85 c = sym (ap computed c.in-85.is)

pub returns-in-65 : goal.returns-in-65
unfolding computed
returns-in-65 c = sym (ap computed c.in-65.is)

pub returns-in-88 : goal.returns-in-88
unfolding computed
returns-in-88 c = sym (ap computed c.in-88.is)

pub returns-in-66 : goal.returns-in-66
unfolding computed
returns-in-66 c = sym (ap computed c.in-66.is)
