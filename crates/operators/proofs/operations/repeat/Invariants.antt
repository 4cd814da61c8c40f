use Rattle.maps.specs.Grounds.{ground}
use Rattle.morphology.specs.Pictures.{dilation}
use Rattle.operators.specs.Steps.{towards}
use Rattle.operators.proofs.Sweeping.{Repeated}
use Rattle.operators.proofs.operations.repeat.Given as goal

abbrev pub invariant-loop-done : goal.invariant-loop-done
invariant-loop-done g l =
    let F = dilation (towards g.O.Operator.up g.S.Scale.grading) (ground (g.C.Criterion.judgement l.criterion) l.map) in
    Repeated F l.done l.initial.picture l.picture l.initial.marks l.marks
