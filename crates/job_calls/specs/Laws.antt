-- What holds of every job. Assumes nothing.
use Rattle.std.specs.Prelude.{◌≡◌, ℕ, ◌<◌, List, ◌++◌, pos, Option, slice_index}
use Rattle.bench.specs.Settings.{Standing}
use Rattle.bench.specs.Calls.{Answer}
use Rattle.records.specs.declared.fault.ReaderFault.{ReaderFault}
use Rattle.records.specs.Jobs.{Job, job_bytes, Sound}
use Rattle.job_calls.specs.Stops.{Stops}
use Rattle.job_calls.specs.Made.{Made}
use Rattle.records.specs.Faults.{line_of_fault}
use Rattle.job_calls.specs.Lines.{call_lines}
use Rattle.job_calls.specs.Prints.{Ending, closing_text, Printed}
use Rattle.records.specs.Jobs.{records_in, left_over}

-- each is a byte
abbrev pub Bytes : List ℕ → Type 0
Bytes bs = (i : ℕ) → slice_index bs i < 256

-- What bytes can come to: a sound job; or a fault, before a picture is seated or among the calls of a job.
pub data Outcome : Type 0 where
  done : Job → Outcome
  stopped : Option Job → ReaderFault → Outcome

-- these bytes come to this
pub data ComesTo (bs : List ℕ) : Outcome → Type 0 where
  as_job : {j : Job} → Sound j → bs ≡ job_bytes j → ComesTo bs (done j)
  to_fault : {o : Option Job} {f : ReaderFault} → Stops (records_in bs) (left_over bs) o f → ComesTo bs (stopped o f)

-- the text ends with the line of the fault
pub record EndsWith (f : ReaderFault) (text : List ℕ) : Type 0 where
  pub before : List ℕ
  pub is : text ≡ before ++ line_of_fault f

-- What holds of jobs, whatever is printed of those that are done.
pub record LawsOfJobs (ending : Ending) : Type 0 where
  -- every byte string is the bytes of a sound job, or has a first bad record
  pub some_outcome : (bs : List ℕ) → Bytes bs → (o : Outcome) × ComesTo bs o
  -- of exactly one such job, or exactly one such fault, and never both
  pub one_outcome : (bs : List ℕ) (o p : Outcome) → ComesTo bs o → ComesTo bs p → o ≡ p
  -- the bytes of a sound job print a line for each call, and the ending
  pub job_prints : (j : Job) (answers : List Answer) (after : Standing ℕ) → Sound j → Made j answers after →
      Printed ending (job_bytes j) (call_lines (pos 0) j.calls answers ++ closing_text ending j after)
  -- where there is a bad record, the text ends with its fault
  pub fault_ends : (bs text : List ℕ) (o : Option Job) (f : ReaderFault) → Stops (records_in bs) (left_over bs) o f → Printed ending bs text → EndsWith f text
  -- no bytes print two texts
  pub one_text : (bs text other : List ℕ) → Printed ending bs text → Printed ending bs other → text ≡ other
