-- What the reader of a job shows of it, and how far it came. Assumes nothing.
use Rattle.std.specs.Prelude.{◌≡◌, ℕ, List, Some, None, Ok, Err, Result}
use Rattle.records.specs.declared.records.Head.{Head}
use Rattle.records.specs.declared.stop.Stop.{Stop}
use Rattle.records.specs.declared.stop.Stop.TheVariants.{Fault, Memory}
use Rattle.job.specs.declared.reading.JobReader.{JobReader}
use Rattle.job.specs.Reading.{Progress, record_fault, reached, reading_from, fresh}

abbrev pub progress : JobReader → Progress
progress j = record { place = j.reader.place; map = j.tile.map.items; picture = j.tile.picture.items; calls = j.calls }

-- record n led from s to s', or a fault was found with it, or memory is wanting
abbrev pub Advances : ℕ → List ℕ → Progress → Result (Unit {0}) Stop → Progress → Type 0
Advances n bs s (Ok u) s' = (record_fault n s bs ≡ None) × (s' ≡ reached n s bs)
Advances n bs s (Err (Fault f)) s' = (record_fault n s bs ≡ Some f) × (s' ≡ reached n s bs)
Advances n bs s (Err (Memory e)) s' = Unit {0}

-- a job led to s', with the head of its tile or the fault that ended it, or memory is wanting
abbrev pub Reads : List ℕ → Result Head Stop → Progress → Type 0
Reads bs (Ok h) s' = reading_from bs fresh ≡ record { end = Ok h; left = s' }
Reads bs (Err (Fault f)) s' = reading_from bs fresh ≡ record { end = Err f; left = s' }
Reads bs (Err (Memory e)) s' = Unit {0}
