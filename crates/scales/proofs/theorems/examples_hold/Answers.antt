use Rattle.scales.proofs.Examples.{phase_examples, relief_examples}
use Rattle.scales.proofs.theorems.examples_hold.Goals as goal

pub returns : goal.returns
returns c = record { phases = phase_examples; relief = relief_examples }
