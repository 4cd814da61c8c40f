-- What each criterion takes from a tolerance, if it takes it. Assumes nothing.
use Rattle.std.specs.Prelude.{◌≡◌, ℕ, Bool, cond, ◌&&◌, is_some, Some, None, Ok, Err, Option, Result, nat_le, Float}
use Rattle.criteria.specs.declared.fault.MapFault.{MapFault}
use Rattle.criteria.specs.declared.fault.MapFault.TheVariants as fault
use Rattle.criteria.specs.declared.tolerance.Tolerance.{Tolerance}
use Rattle.criteria.specs.declared.tolerance.Tolerance.TheVariants.{Step, Tone, Turn, Limits}
use Rattle.criteria.specs.Limits.{is_limit}

-- each criterion takes its own case alone: a step any byte, a tone any byte, a turn at most 90 degrees, limits that are limits
abbrev pub step_of : Tolerance → Option ℕ
step_of (Step t) = Some t
step_of (Tone t) = None
step_of (Turn t) = None
step_of (Limits m s) = None

abbrev pub tone_of : Tolerance → Option ℕ
tone_of (Step t) = None
tone_of (Tone t) = Some t
tone_of (Turn t) = None
tone_of (Limits m s) = None

abbrev pub turn_of : Tolerance → Option ℕ
turn_of (Step t) = None
turn_of (Tone t) = None
turn_of (Turn t) = cond (nat_le t 90) (Some t) None
turn_of (Limits m s) = None

abbrev pub limits_of : Tolerance → Option (Float × Float)
limits_of (Step t) = None
limits_of (Tone t) = None
limits_of (Turn t) = None
limits_of (Limits m s) = cond (is_limit m && is_limit s) (Some (m, s)) None

-- does the criterion of the tolerance's own case take it?
abbrev pub accepted : Tolerance → Bool
accepted (Step t) = is_some (step_of (Step t))
accepted (Tone t) = is_some (tone_of (Tone t))
accepted (Turn t) = is_some (turn_of (Turn t))
accepted (Limits m s) = is_some (limits_of (Limits m s))

-- A criterion is made with what it takes from the tolerance, or refused by Tolerance where it takes nothing.
abbrev pub MadeWith : {C L : Type 0} → (C → L) → Option L → Result C MapFault → Type 0
MadeWith held taken (Ok c) = taken ≡ Some (held c)
MadeWith held taken (Err f) = (taken ≡ None) × (f ≡ fault.Tolerance)
