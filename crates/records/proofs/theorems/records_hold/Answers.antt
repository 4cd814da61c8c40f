use Rattle.records.proofs.Encodings.{reads_back, only_may_come, only_written}
use Rattle.records.proofs.theorems.records_hold.Goals as goal

pub returns : goal.returns
returns c = record { reads_back = reads_back; only_may_come = only_may_come; only_written = only_written }
