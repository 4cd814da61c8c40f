use Rattle.morphology.proofs.Levelling.{levels}
use Rattle.morphology.proofs.theorems.levels_hold.Goals as goal

pub returns : goal.returns
returns c = levels
