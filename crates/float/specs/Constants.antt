-- Document 01's constants, by their decimals.
use Rattle.std.specs.Prelude.{Float}
use Rattle.float.specs.Numbers.{dec}
use Rattle.float.specs.declared.constants.Constants.{Constants}

-- "R2, R3, R5 being 1.4142135623730951, 1.7320508075688772, 2.23606797749979"
unfoldable pub R2 : Float
unfolding dec
R2 = dec 14142135623730951 16

unfoldable pub R3 : Float
unfolding dec
R3 = dec 17320508075688772 16

unfoldable pub R5 : Float
unfolding dec
R5 = dec 223606797749979 14

-- "π being 3.141592653589793"
unfoldable pub π : Float
unfolding dec
π = dec 3141592653589793 15

-- "1e-7"
unfoldable pub tolerance : Float
unfolding dec
tolerance = dec 1 7

-- all of them, as the code hands them out
unfoldable pub constants : Constants
unfolding R2 R3 R5 π tolerance
constants = record { sqrt_2 = R2; sqrt_3 = R3; sqrt_5 = R5; pi = π; eps = tolerance }
