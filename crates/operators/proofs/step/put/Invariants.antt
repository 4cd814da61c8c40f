use Rattle.operators.specs.Steps.{towards, AllPut}
use Rattle.operators.proofs.Listed.{Early}
use Rattle.operators.proofs.step.put.Given as goal

abbrev pub invariant-loop-pixel : goal.invariant-loop-pixel
invariant-loop-pixel g l = AllPut (towards g.O.Operator.up g.S.Scale.grading) (Early l.pixels l.pixel-index) l.v l.initial.spare l.spare
