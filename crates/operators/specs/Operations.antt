-- What an operation does to a picture, and what it refuses. Assumes nothing.
use Rattle.std.specs.Prelude.{◌≡◌, ℕ, List, [], ◌∷◌, length, Ok, Err, Result, ◌==◌, nat_le}
use Rattle.scales.specs.Scales.{Grading}
use Rattle.morphology.specs.declared.calls.Operation.{Operation}
use Rattle.morphology.specs.Neighbourhoods.{Ground}
use Rattle.morphology.specs.Pictures.{dilation, erosion}
use Rattle.morphology.specs.Calls.{act}
use Rattle.maps.specs.Checks.{Check}
use Rattle.criteria.specs.declared.fault.Part.TheVariants as part
use Rattle.operators.specs.declared.room.Room.{Room}
use Rattle.operators.specs.declared.fit.Unfit.{Unfit}
use Rattle.operators.specs.declared.fit.Unfit.TheVariants as unfit

-- the picture after an operation of size p, by the dilation and the erosion of this ground
abbrev pub operated : {S : Type 0} → Grading S → Ground → Operation → ℕ → List S → List S
operated scale g o p f = act (dilation scale g) (erosion scale g) o p f

-- the room of this scratch
abbrev pub room_of : {S : Type 0} → List ℕ → List ℕ → List S → Room
room_of marks queue spare = record { marks = length marks; queue = length queue; spare = length spare }

-- a map of n pixels: the picture has this many values, and each part of the scratch has an entry for each pixel
abbrev pub fit_checks : ℕ → ℕ → Room → List (Check Unfit)
fit_checks n picture room =
    record { holds = (picture == n); fault = unfit.Picture }
    ∷ record { holds = nat_le n room.marks; fault = unfit.Scratch part.Marks }
    ∷ record { holds = nat_le n room.queue; fault = unfit.Scratch part.Queue }
    ∷ record { holds = nat_le n room.spare; fault = unfit.Scratch part.Spare }
    ∷ []

-- a refusal leaves it as it was; otherwise it may hold anything
abbrev pub KeptIfRefused : {A V F : Type 0} → Result V F → A → A → Type 0
KeptIfRefused (Ok v) before after = Unit {0}
KeptIfRefused (Err f) before after = after ≡ before
