use Rattle.morphology.specs.Bounds.{JoinOf}
use Rattle.operators.specs.Steps.{towards, OwnOrOver}
use Rattle.operators.proofs.Listed.{Early}
use Rattle.operators.proofs.step.gather.Given as goal

abbrev pub invariant-loop-pixel : goal.invariant-loop-pixel
invariant-loop-pixel g l =
    JoinOf (towards g.O.Operator.up g.S.Scale.grading) (OwnOrOver l.initial.all (Early l.pixels l.pixel-index) l.picture) l.all
