use Rattle.scales.specs.Marks.{marked}
use Rattle.scales.proofs.theorems.marks_hold.Goals as goal

pub returns : goal.returns
returns c = marked
