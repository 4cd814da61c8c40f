-- The worked examples, by computation. Assumes nothing.
use Rattle.std.proofs.Common.{refl}
use Rattle.scales.proofs.Examples.{phase_examples, relief_examples}
use Rattle.criteria.specs.Examples.{NearExamples}
use Rattle.neighbourhoods.proofs.Worked.{reach_examples, filter_examples}
use Rattle.trial.specs.Worked.{WorkedExamples}

near_examples : NearExamples
near_examples = record {
  step_10 = refl;
  step_10_not = refl;
  tone_64_from_0 = refl;
  tone_64_from_0_not = refl;
  tone_64_from_128 = refl;
  tone_64_from_128_not = refl;
  turn_5 = refl;
  turn_5_not = refl;
}

pub worked_examples : WorkedExamples
worked_examples = record {
  near = near_examples;
  reach = reach_examples;
  filters = filter_examples;
  phase_sets = phase_examples;
  relief = relief_examples;
  note = refl;
}
