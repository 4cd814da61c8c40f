use Rattle.neighbourhoods.proofs.Worked.{reach_examples, filter_examples}
use Rattle.neighbourhoods.proofs.theorems.examples_hold.Goals as goal

pub returns : goal.returns
returns c = record { reach = reach_examples; filters = filter_examples }
