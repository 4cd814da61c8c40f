use Rattle.maps.specs.Grounds.{ground}
use Rattle.operators.specs.Steps.{towards}
use Rattle.operators.proofs.Sweeping.{Sweeping}
use Rattle.operators.proofs.step.step.Given as goal

abbrev pub invariant-loop-z : goal.invariant-loop-z
invariant-loop-z g l =
    let scale = towards g.O.Operator.up g.S.Scale.grading in
    let tile = ground (g.C.Criterion.judgement l.criterion) l.map in
    Sweeping scale tile l.picture l.z l.spare l.initial.marks l.marks
