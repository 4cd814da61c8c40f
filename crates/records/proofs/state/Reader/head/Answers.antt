use Rattle.std.proofs.Common.{rules}
use Rattle.records.specs.Records.{head_of}
use Rattle.records.proofs.Heads.{head_passes}
use Rattle.records.proofs.state.Reader.head.Goals as goal

pub invariant_of-self : goal.invariant_of-self
invariant_of-self c = record { sound = head_passes (head_of c.args.shape c.args.bytes.now) (search rules) }
