use Rattle.job.proofs.Jobs.{jobs_print}
use Rattle.job.proofs.theorems.jobs_hold.Goals as goal

pub returns : goal.returns
returns c = jobs_print
