use Rattle.std.proofs.Common.{◌≡◌, false, take}
use Rattle.job_calls.specs.Calling.{takes_calls}
use Rattle.job_calls.specs.Reading.{SoFar}
use Rattle.job_calls.proofs.tile.read_tile.Given as goal

abbrev pub invariant-loop-number : goal.invariant-loop-number
invariant-loop-number l = SoFar l.bytes.map.items l.bytes.picture.items l.reader.place (take l.number l.cut.records.now) × (takes_calls l.reader.place ≡ false)
