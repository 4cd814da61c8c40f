use Rattle.neighbourhoods.proofs.Stepping.{steps_lead}
use Rattle.neighbourhoods.proofs.theorems.steps_hold.Goals as goal

pub returns : goal.returns
returns c = steps_lead
