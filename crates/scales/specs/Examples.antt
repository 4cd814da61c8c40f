-- Worked examples of the scales. Assumes nothing.
use Rattle.std.specs.Prelude.{◌≡◌, pos, negsuc}
use Rattle.scales.specs.Phases.{phases, phase_gap}
use Rattle.scales.specs.Relief.{relief_gap}

-- The phase sets 3 and 6 share one mark and have one each of their own.
pub record PhaseExamples : Type 0 where
  pub join : phases.join 3 6 ≡ 7
  pub meet : phases.meet 3 6 ≡ 2
  pub apart : phases.below 3 6 → ⊥
  pub apart_too : phases.below 6 3 → ⊥
  pub gap : phase_gap 3 6 ≡ 1

-- negsuc 4 is −5
pub record ReliefExamples : Type 0 where
  pub above : relief_gap (pos 3) (negsuc 4) ≡ 8
  pub below : relief_gap (negsuc 4) (pos 3) ≡ 0
