-- The text that a job prints. Assumes nothing.
use Rattle.std.specs.Prelude.{ℕ, cond, List, ◌++◌, Ok, Err, Result, ◌==◌}
use Rattle.records.specs.declared.fault.ReaderFault.{ReaderFault}
use Rattle.records.specs.declared.records.Head.{Head}
use Rattle.job.specs.Reading.{Progress, Reading, reading_from, fresh}
use Rattle.lines.specs.Lines.{rows_text}
use Rattle.records.specs.Faults.{line_of_fault}
use Rattle.job.specs.Lines.{empty_note, count_text, not_made}

-- a sound job: the rows of the picture and the note, or, with calls in the job, that they were not made
abbrev pub sound_text : Head → ℕ → List ℕ → List ℕ
sound_text h calls picture = cond (calls == 0) (rows_text h.width h.height picture ++ empty_note) (count_text calls)

-- a job with a fault: the calls before it were not made, and the fault ends the text
abbrev pub fault_ending : ReaderFault → ℕ → List ℕ
fault_ending f calls = not_made calls ++ line_of_fault f

abbrev pub ending : Result Head ReaderFault → Progress → List ℕ
ending (Ok h) s = sound_text h s.calls s.picture
ending (Err f) s = fault_ending f s.calls

abbrev pub reading_text : Reading → List ℕ
reading_text r = ending r.end r.left

-- what a job prints
abbrev pub job_text : List ℕ → List ℕ
job_text bs = reading_text (reading_from bs fresh)
