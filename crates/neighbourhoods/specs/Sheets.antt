-- What a reach call answers, and the sheet that it writes. Assumes nothing.
use Rattle.std.specs.Prelude.{ℕ, Bool, cond, List, [], ◌∷◌, ◌++◌, length, Result, ◌==◌, slice_set}
use Rattle.std.specs.List.{fold}
use Rattle.criteria.specs.Criteria.{Judgement}
use Rattle.criteria.specs.declared.fault.MapFault.{MapFault}
use Rattle.criteria.specs.declared.fault.MapFault.TheVariants.{Misfit}
use Rattle.criteria.specs.declared.fault.Counted.TheVariants as counted
use Rattle.maps.specs.declared.map.Map.{Map}
use Rattle.maps.specs.Checks.{Check, first_fault, answered}
use Rattle.maps.specs.Windows.{pixels_of}
use Rattle.maps.specs.Admission.{admission_check}
use Rattle.morphology.specs.Neighbourhoods.{Ground, pixels}
use Rattle.morphology.specs.Tables.{tabulate, weak, symmetric}
use Rattle.neighbourhoods.specs.Floods.{pixel_check, scratch_checks}

-- the sheet has a byte for each pixel of the map
abbrev pub sheet_check : {V : Type 0} → Map V → List ℕ → Check MapFault
sheet_check map sheet = record { holds = (length sheet == pixels_of map); fault = Misfit counted.Sheet }

-- the checks of a reach call from a pixel
abbrev pub reach_checks : {V : Type 0} → Judgement V → Map V → ℕ → List ℕ → List ℕ → List ℕ → List (Check MapFault)
reach_checks j map pixel sheet marks queue =
    pixel_check map pixel ∷ sheet_check map sheet ∷ scratch_checks map marks queue ++ admission_check j map ∷ []

-- what it answers
abbrev pub reach_answer : {V : Type 0} → Judgement V → Map V → ℕ → List ℕ → List ℕ → List ℕ → Result Unit MapFault
reach_answer j map pixel sheet marks queue =
    answered (first_fault (reach_checks j map pixel sheet marks queue)) tt

-- the sheet of a test: for each pixel 1 where it passes, and else 0
abbrev pub sheet_of : ℕ → (ℕ → Bool) → List ℕ
sheet_of n test = tabulate n (λ y. cond (test y) 1 0)

-- the sheet of the weak neighbourhood of z
abbrev pub weak_sheet : Ground → ℕ → List ℕ
weak_sheet g z = sheet_of (pixels g) (weak g z)

-- the sheet of the symmetric neighbourhood of x
abbrev pub symmetric_sheet : Ground → ℕ → List ℕ
symmetric_sheet g x = sheet_of (pixels g) (symmetric g x)

-- the sheet with 1 at the pixels of a list, the others as they were
abbrev pub drawn : List ℕ → List ℕ → List ℕ
drawn sheet pixels = fold (λ s p. slice_set s p 1) sheet pixels
