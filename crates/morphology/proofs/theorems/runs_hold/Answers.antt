use Rattle.morphology.proofs.Operators.{adjoint}
use Rattle.morphology.proofs.Runs.{laws_of_runs, laws_of_openings}
use Rattle.morphology.proofs.theorems.runs_hold.Goals as goal

pub returns : goal.returns
returns g c = record {
  bounds = λ ground. laws_of_runs (adjoint g.met.S.Scale.lattice ground);
  openings = λ ground. laws_of_openings (adjoint g.met.S.Scale.lattice ground);
}
