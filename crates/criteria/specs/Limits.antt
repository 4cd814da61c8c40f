-- Which floats may be limits. Assumes nothing.
use Rattle.std.specs.Prelude.{Bool, ◌&&◌, Float}
use Rattle.std.specs.Float.Ieee.{le}
use Rattle.std.specs.Float.{float_is_finite, float_zero}

-- finite, and not below zero
abbrev pub is_limit : Float → Bool
is_limit x = float_is_finite x && le float_zero x
