-- A choice by a test. A definition that recurses binds its recursive call by a `let` before it picks, so that antt computes the call only where it is picked.
use Rattle.std.specs.Prelude.{Bool, true, false}

-- a where the test holds, else b
abbrev pub pick : {A : Type 0} → Bool → A → A → A
pick true a b = a
pick false a b = b
