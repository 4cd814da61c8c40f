use Rattle.trial.proofs.Computed.{worked_examples}
use Rattle.trial.proofs.examples.examples_hold.Goals as goal

pub returns : goal.returns
returns c = worked_examples
