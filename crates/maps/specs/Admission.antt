-- The first value of a map that is not admitted. Assumes nothing.
use Rattle.std.specs.Prelude.{◌≡◌, ℕ, ◌<◌, Bool, true, false, not, List, [], ◌∷◌, is_some, Some, None, Option, Result}
use Rattle.std.specs.List.{position}
use Rattle.std.specs.Option.{unwrap_or}
use Rattle.criteria.specs.Criteria.{Judgement}
use Rattle.criteria.specs.declared.fault.MapFault.{MapFault}
use Rattle.criteria.specs.declared.fault.MapFault.TheVariants.{Inadmissible}
use Rattle.morphology.specs.Pictures.{At}
use Rattle.maps.specs.declared.map.Map.{Map}
use Rattle.maps.specs.Checks.{Check, first_fault, answered}

-- Pixel i is the first whose value is not admitted, or there is none.
pub data FirstNot {V : Type 0} (admits : V → Bool) (values : List V) : Option ℕ → Type 0 where
  all_admitted : ((i : ℕ) (v : V) → At values i v → admits v ≡ true) → FirstNot admits values None
  first_at : {i : ℕ} {v : V} → At values i v → admits v ≡ false →
      ((k : ℕ) (u : V) → k < i → At values k u → admits u ≡ true) → FirstNot admits values (Some i)

-- its number, by search from the first pixel on
abbrev pub first_not : {V : Type 0} → (V → Bool) → List V → Option ℕ
first_not admits values = position (λ v. not (admits v)) values

-- the first pixel of a map whose value is not admitted
abbrev pub inadmissible : {V : Type 0} → Judgement V → Map V → Option ℕ
inadmissible j map = first_not j.admits map.values.now

-- the check that there is no such pixel
abbrev pub none_check : Option ℕ → Check MapFault
none_check first = record { holds = not (is_some first); fault = Inadmissible (unwrap_or first 0) }

-- the check that all values of a map are admitted
abbrev pub admission_check : {V : Type 0} → Judgement V → Map V → Check MapFault
admission_check j map = none_check (inadmissible j map)

-- what the check answers
abbrev pub admission_answer : {V : Type 0} → Judgement V → Map V → Result Unit MapFault
admission_answer j map = answered (first_fault (admission_check j map ∷ [])) tt
