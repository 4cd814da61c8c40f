-- What the work on a job comes to. Assumes nothing.
use Rattle.std.specs.Prelude.{◌≡◌, ℕ, ◌+◌, ◌≤◌, List, ◌++◌, length, take, pos, None, Ok, Err, Result}
use Rattle.bench.specs.declared.bench.Bench.{Bench}
use Rattle.bench.specs.Settings.{standing}
use Rattle.bench.specs.Calls.{Answer}
use Rattle.records.specs.declared.records.Head.{Head}
use Rattle.records.specs.declared.stop.Stop.{Stop}
use Rattle.records.specs.declared.stop.Stop.TheVariants.{Fault, Memory}
use Rattle.records.specs.Records.{pixels}
use Rattle.records.specs.Jobs.{Job, tile_records, records_of, Tile, Sound}
use Rattle.job_calls.specs.Stops.{Stops}
use Rattle.job_calls.specs.Made.{Made}
use Rattle.records.specs.Faults.{line_of_fault}
use Rattle.job_calls.specs.Lines.{call_lines}
use Rattle.job_calls.specs.Prints.{Ending, Prints}

-- The first n records are a tile with these map bytes and grey bytes.
pub record Taken (records : List (List ℕ)) (n : ℕ) (h : Head) (map grey : List ℕ) : Type 0 where
  pub tile : Tile h map grey
  pub number : n ≡ pixels h + 1
  pub within : n ≤ length records
  pub front : take n records ≡ tile_records h map grey

-- What ends the reading of these records before their tile is whole: a fault ends the job there, or memory is wanting.
abbrev pub NoTile : List (List ℕ) → ℕ → Stop → Type 0
NoTile records left (Fault f) = Stops records left None f
NoTile records left (Memory e) = Unit {0}

-- The records are a sound job with this head and these grey bytes, and all its calls are made: the bench and the picture that they left, and their lines.
pub record Filters (records : List (List ℕ)) (left : ℕ) (h : Head) (grey : List ℕ) (b : Bench) (picture text : List ℕ) : Type 0 where
  pub job : Job
  pub answers : List Answer
  pub sound : Sound job
  pub head_is : job.head ≡ h
  pub grey_is : job.grey ≡ grey
  pub records_are : records ≡ records_of job
  pub none_left : left ≡ 0
  pub made : Made job answers (standing b picture)
  pub lines : text ≡ call_lines (pos 0) job.calls answers

-- The calls are all made; or a fault ends the job, and with its line the text is what the job prints; or memory is wanting.
abbrev pub AfterCalls : Ending → List (List ℕ) → ℕ → Head → List ℕ → Result Bench Stop → List ℕ → List ℕ → Type 0
AfterCalls ending records left h grey (Ok b) picture text = Filters records left h grey b picture text
AfterCalls ending records left h grey (Err (Fault f)) picture text = Prints ending records left (text ++ line_of_fault f)
AfterCalls ending records left h grey (Err (Memory e)) picture text = Unit {0}

-- The text is what the job prints; or a fault ends the job, and with its line it is; or memory is wanting.
abbrev pub Ends : Ending → List (List ℕ) → ℕ → Result (Unit {0}) Stop → List ℕ → Type 0
Ends ending records left (Ok u) text = Prints ending records left text
Ends ending records left (Err (Fault f)) text = Prints ending records left (text ++ line_of_fault f)
Ends ending records left (Err (Memory e)) text = Unit {0}
