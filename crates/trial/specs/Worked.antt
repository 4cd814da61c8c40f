-- The worked examples. Assumes nothing.
use Rattle.std.specs.Prelude.{◌≡◌, [], ◌∷◌, pos, negsuc}
use Rattle.scales.specs.Examples.{PhaseExamples, ReliefExamples}
use Rattle.criteria.specs.Examples.{NearExamples}
use Rattle.morphology.specs.declared.calls.Levels.{Levels}
use Rattle.neighbourhoods.specs.Examples.{ReachExamples, FilterExamples}
use Rattle.bench.specs.Notes.{filed}

-- the levels after the worked job: present −1, lowest −1, highest 1
abbrev pub worked_levels : Levels
worked_levels = record { present = negsuc 0; lowest = negsuc 0; highest = pos 1 }

-- The examples of scales, criteria and neighbourhoods, and the note of the worked job, which accepted three calls.
pub record WorkedExamples : Type 0 where
  pub near : NearExamples
  pub reach : ReachExamples
  pub filters : FilterExamples
  pub phase_sets : PhaseExamples
  pub relief : ReliefExamples
  pub note : filed worked_levels 3 ≡ 78 ∷ 63 ∷ 63 ∷ 65 ∷ 3 ∷ 0 ∷ 0 ∷ 0 ∷ []
