-- What an accepted call says of its checks. Assumes nothing.
use Rattle.std.proofs.Common.{◌≡◌, Bool, true, false, cond, Some, None, Ok, Option, refl}
use Rattle.maps.specs.Checks.{answered}

module _ {V F : Type 0} where
  -- an accepted call found no fault
  pub no_fault : (o : Option F) (v : V) {w : V} → Ok w ≡ answered o v → o ≡ None
  no_fault None v e = refl
  no_fault (Some f) v e = cc

-- the first of the checks passes, and then the others do
pub first_passes : {F : Type 0} (b : Bool) (o : Option F) (f : F) → cond b o (Some f) ≡ None → (b ≡ true) × (o ≡ None)
first_passes true o f e = (refl, e)
first_passes false o f e = cc
