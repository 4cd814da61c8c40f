-- The criterion on reflectances, which lie in a map as the bits of two 32-bit floats. Assumes nothing.
use Rattle.std.specs.Prelude.{Bool, false, ◌&&◌, from_bits, Float}
use Rattle.std.specs.Float.Ieee.{sub, le}
use Rattle.std.specs.Float.{float_is_finite, float_with_sign, binary32}
use Rattle.criteria.specs.Criteria.{Judgement}
use Rattle.criteria.specs.declared.reflectance.Reflectance.{Reflectance}
use Rattle.criteria.specs.declared.reflectance.ReflectanceBits.{ReflectanceBits}

-- the floats that the bits stand for
abbrev pub read_back : ReflectanceBits → Reflectance
read_back b = record { mean = from_bits binary32 b.mean; slope = from_bits binary32 b.slope }

-- a reflectance is admitted when both of its floats are finite
abbrev pub both_finite : Reflectance → Bool
both_finite r = float_is_finite r.mean && float_is_finite r.slope

-- the difference, rounded once and without sign, is at most the limit
abbrev pub float_near : Float → Float → Float → Bool
float_near limit c v = le (float_with_sign false (sub binary32 c v)) limit

-- mean and slope are each within their limit
abbrev pub both_near : Float → Float → Reflectance → Reflectance → Bool
both_near mean slope c v = float_near mean c.mean v.mean && float_near slope c.slope v.slope

-- reflectance limits
abbrev pub by_limits : Float → Float → Judgement ReflectanceBits
by_limits mean slope = record { admits = λ v. both_finite (read_back v); near = λ c v. both_near mean slope (read_back c) (read_back v) }
