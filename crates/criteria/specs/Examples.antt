-- Worked examples of the criteria on bytes. Assumes nothing.
use Rattle.std.specs.Prelude.{◌≡◌, true, false}
use Rattle.criteria.specs.Bytes.{by_step, by_tone, by_turn}

-- each line: the tolerance, the centre and the value
pub record NearExamples : Type 0 where
  pub step_10 : (by_step 10).near 20 30 ≡ true
  pub step_10_not : (by_step 10).near 20 31 ≡ false
  pub tone_64_from_0 : (by_tone 64).near 0 64 ≡ true
  pub tone_64_from_0_not : (by_tone 64).near 0 65 ≡ false
  pub tone_64_from_128 : (by_tone 64).near 128 160 ≡ true
  pub tone_64_from_128_not : (by_tone 64).near 128 161 ≡ false
  pub turn_5 : (by_turn 5).near 178 3 ≡ true
  pub turn_5_not : (by_turn 5).near 178 4 ≡ false
