-- What a job prints. Assumes nothing.
use Rattle.std.specs.Prelude.{◌≡◌, ℕ, List, ◌++◌, pos, Some, None}
use Rattle.scales.specs.Grey.{grey_gap}
use Rattle.morphology.specs.declared.calls.Levels.{Levels}
use Rattle.bench.specs.Residues.{gap_sum}
use Rattle.bench.specs.Settings.{Standing}
use Rattle.bench.specs.Calls.{Answer}
use Rattle.records.specs.declared.fault.ReaderFault.{ReaderFault}
use Rattle.records.specs.declared.records.Head.{Head}
use Rattle.lines.specs.Lines.{rows_text}
use Rattle.records.specs.Jobs.{Job, records_of, records_in, left_over, Sound}
use Rattle.job_calls.specs.Stops.{Stops}
use Rattle.job_calls.specs.Made.{Made}
use Rattle.records.specs.Faults.{line_of_fault}
use Rattle.job_calls.specs.Lines.{call_lines, note_line, differing, inclusions_text}

-- what is printed once all calls are made: from the head, the picture as taken and as filtered, the levels and the accepted count
abbrev pub Ending : Type 0
Ending = Head → List ℕ → List ℕ → Levels → ℕ → List ℕ

-- the same of a job, and of the bench and the picture that its calls left
abbrev pub closing_text : Ending → Job → Standing ℕ → List ℕ
closing_text ending j after = ending j.head j.grey after.picture after.bench.book.levels after.bench.book.count

-- What these records print, with so many bytes left over after them.
pub data Prints (ending : Ending) (records : List (List ℕ)) (left : ℕ) (text : List ℕ) : Type 0 where
  -- a sound job: a line for each call, and the ending
  whole : {j : Job} {answers : List Answer} {after : Standing ℕ} → Sound j → records ≡ records_of j → left ≡ 0 → Made j answers after →
      text ≡ call_lines (pos 0) j.calls answers ++ closing_text ending j after → Prints ending records left text
  -- a fault before a picture is seated: its line alone
  unseated : {f : ReaderFault} → Stops records left None f → text ≡ line_of_fault f → Prints ending records left text
  -- a fault among the calls: a line for each call before it, then the fault's
  broken_off : {j : Job} {answers : List Answer} {after : Standing ℕ} {f : ReaderFault} → Stops records left (Some j) f → Made j answers after →
      text ≡ call_lines (pos 0) j.calls answers ++ line_of_fault f → Prints ending records left text

-- what these bytes print
abbrev pub Printed : Ending → List ℕ → List ℕ → Type 0
Printed ending bs text = Prints ending (records_in bs) (left_over bs) text

-- the rows of the picture, and the note
abbrev pub rows_and_note : Ending
rows_and_note h taken filtered levels count = rows_text h.width h.height filtered ++ note_line levels count

-- the residue of the tile as taken over the tile as filtered, and how many pixels differ
abbrev pub inclusions : Ending
inclusions h taken filtered levels count = inclusions_text (gap_sum grey_gap taken filtered) (differing taken filtered)
