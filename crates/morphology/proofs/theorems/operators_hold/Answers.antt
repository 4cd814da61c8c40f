use Rattle.morphology.proofs.Operators.{operators}
use Rattle.morphology.proofs.theorems.operators_hold.Goals as goal

pub returns : goal.returns
returns g c = operators g.met.S.Scale.lattice
