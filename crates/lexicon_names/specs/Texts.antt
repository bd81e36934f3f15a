-- Document 02, K4's texts to try, as a list that goes on from lexicon/specs/Texts.antt, which stands below this call. proofs/TextsRight.antt proves each.
use Rattle.std.specs.Prelude.{ℕ, false, List, [], ◌∷◌, Result, Ok, Err}
use Prim.Native.String.{String}
use Rattle.cd.specs.declared.CdError.{CdError}
use Rattle.cd.specs.declared.CdError.TheVariants.{NoName}
use Rattle.group_names.specs.Named.{group, listing}
use Rattle.group_names.specs.declared.Group.{Group}
use Rattle.group_names.specs.declared.Groups.{Groups}
use Rattle.group_names.specs.declared.Name.TheVariants.{A, B, D, F4, I2}
use Rattle.scan.specs.Ascii.{ascii}
use Rattle.lexicon_names.specs.NamesText.{NamesText}

-- a text, and its names or what refuses them
pub record Entry : Type 0 where
  pub text : String
  pub names : Result Groups CdError

abbrev pub RightEntry : Entry → Type 0
RightEntry e = NamesText false (ascii e.text) e.names

abbrev named : String → List Group → Entry
named text gs = record { text = text; names = Ok (listing gs) }

-- 21 and the node
abbrev nameless : String → ℕ → Entry
nameless text c = record { text = text; names = Err (NoName c) }

unfoldable pub texts : List Entry
texts =
    -- "I2(p), two nodes with a whole p ≥ 5": 3 is A's and 4 is B's
    named "x3o" (group 0 (A 2) ∷ []) ∷
    named "x4o" (group 0 (B 2) ∷ []) ∷
    named "x5o" (group 0 (I2 5) ∷ []) ∷
    named "x10/2o" (group 0 (I2 5) ∷ []) ∷
    nameless "x5/2o" 0 ∷
    named "x4294967295o" (group 0 (I2 4294967295) ∷ []) ∷
    -- "F4 (edges 3, 4, 3)"
    named "x3o4o3o" (group 0 F4 ∷ []) ∷
    -- D3, E4 and E5 as document 01 numbers them
    named "xoo*a3*c*b3*c" (group 0 (A 3) ∷ []) ∷
    named "xooo*b3*c*c3*d*a3*d" (group 0 (A 4) ∷ []) ∷
    named "xoooo*b3*c*c3*d*d3*e*a3*d" (group 0 (D 5) ∷ []) ∷
    -- an affine cycle, two 4s, a 4 and a 5 in chains of five, and E9
    nameless "x3o3o3*a" 0 ∷
    nameless "x4o3o4o" 0 ∷
    nameless "x3o4o3o3o" 0 ∷
    nameless "x5o3o3o3o" 0 ∷
    nameless "x3o3o3o3o3o3o3o *c3o" 0 ∷
    -- "Rings, lengths and loops play no part"
    named "s3o4(1.5)*a5*a" (group 0 (B 3) ∷ []) ∷
    -- "For every component, in the order of its lowest node"
    named "xoo*a7*c" (group 0 (I2 7) ∷ group 1 (A 1) ∷ []) ∷
    -- "the first component that no name fits (21, its lowest node)"
    nameless "x3o o5/2o" 2 ∷
    named "*a" [] ∷ []
