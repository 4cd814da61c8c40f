use Rattle.morphology.proofs.Tables.{neighbourhoods}
use Rattle.morphology.proofs.theorems.neighbourhoods_hold.Goals as goal

pub returns : goal.returns
returns c = neighbourhoods
