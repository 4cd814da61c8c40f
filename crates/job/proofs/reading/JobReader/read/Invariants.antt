use Rattle.std.proofs.Common.{◌≡◌, ℕ, ◌≤◌, drop}
use Rattle.job.specs.Reading.{Filled, read_on, fresh}
use Rattle.job.specs.Progress.{progress}
use Rattle.job.proofs.reading.JobReader.read.Given as goal

abbrev pub invariant-loop-number : goal.invariant-loop-number
invariant-loop-number l = record {
  few : l.self.calls ≤ l.number;
  filled : Filled (progress l.self);
  read : (left : ℕ) → read_on 0 l.cut.records.now left fresh ≡ read_on l.number (drop l.number l.cut.records.now) left (progress l.self);
}
