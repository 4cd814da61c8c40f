-- A finite float lies within every limit of itself: the float minus itself is zero. Assumes nothing.
use Rattle.std.specs.Prelude.{◌≡◌, true, Float}
use Rattle.std.proofs.Common.{sym, ap, ◌∙◌}
use Rattle.std.specs.Float.Ieee.{sub, le}
use Rattle.std.specs.Float.Ieee.Fits.{sub-fits}
use Rattle.std.specs.Float.{float_is_finite, float_zero, binary32}
use Rattle.std.proofs.num.FloatSigns.{tests_finite, size-zero, zero_is}
use Rattle.std.proofs.lemmas.Bool.{and_parts}
use Rattle.criteria.specs.Limits.{is_limit}
use Rattle.criteria.specs.Floats.{float_near}

pub float_near_itself : (limit x : Float) → is_limit limit ≡ true → float_is_finite x ≡ true → float_near limit x x ≡ true
float_near_itself limit x h f =
    let none = size-zero binary32 (sub binary32 x x) (sub-fits binary32 x x) ((tests_finite binary32 x).0 ∙ f) in
    ap (λ y. le y limit) (sym none ∙ zero_is binary32) ∙ (and_parts (float_is_finite limit) (le float_zero limit) h).1
