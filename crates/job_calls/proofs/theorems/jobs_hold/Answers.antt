use Rattle.job_calls.proofs.Outcomes.{some_outcome, one_outcome}
use Rattle.job_calls.proofs.Once.{job_prints, fault_ends, one_text}
use Rattle.job_calls.proofs.theorems.jobs_hold.Goals as goal

pub returns : goal.returns
returns c = λ ending. record {
  some_outcome = some_outcome;
  one_outcome = one_outcome;
  job_prints = job_prints ending;
  fault_ends = fault_ends ending;
  one_text = one_text ending;
}
