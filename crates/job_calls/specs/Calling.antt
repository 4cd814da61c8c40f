-- Calls of a job, made one record at a time. Assumes nothing.
use Rattle.std.specs.Prelude.{◌≡◌, ℕ, ◌+◌, Bool, true, false, List, ◌++◌, map, length, Ok, Err, Result}
use Rattle.criteria.specs.declared.fault.MapFault.TheVariants.{Inadmissible}
use Rattle.morphology.specs.Calls.{Call}
use Rattle.bench.specs.declared.fault.BenchFault.TheVariants.{Map}
use Rattle.bench.specs.Settings.{Setting, Standing}
use Rattle.bench.specs.Calls.{Answer, Filtered, Run}
use Rattle.records.specs.declared.fault.ReaderFault.{ReaderFault}
use Rattle.records.specs.declared.fault.ReaderFault.TheVariants.{Bench}
use Rattle.records.specs.declared.place.Place.{Place}
use Rattle.records.specs.declared.place.Place.TheVariants as place
use Rattle.records.specs.Reading.{taken}
use Rattle.records.specs.declared.stop.Stop.{Stop}
use Rattle.records.specs.declared.stop.Stop.TheVariants.{Fault, Memory}
use Rattle.records.specs.Jobs.{call_record, call_records}
use Rattle.job_calls.specs.Stops.{Bad}
use Rattle.job_calls.specs.Made.{asked}
use Rattle.job_calls.specs.Lines.{number_of_answer, call_line, call_lines}

-- The record is a C, and its call was made: this is the answer, and its line was added to the text.
pub record Called (s : Setting ℕ ℕ) (bs : List ℕ) (before : Standing ℕ) (old : List ℕ) (after : Standing ℕ) (new : List ℕ) : Type 0 where
  pub call : Call
  pub answer : Answer
  pub is : bs ≡ call_record call
  pub filtered : Filtered s (asked call) before answer after
  pub line : new ≡ old ++ call_line call (number_of_answer answer) after.bench.book.levels.present

-- the reader has come to the calls
abbrev pub takes_calls : Place → Bool
takes_calls place.Head = false
takes_calls (place.Pixels h next) = false
takes_calls (place.Calls h) = true

-- What came of record n, for a reader at p: a call, or the fault of a record that is no sound C, which changes nothing.
abbrev pub Tried : Setting ℕ ℕ → ℕ → Place → List ℕ → Standing ℕ → List ℕ → Result (Unit {0}) Stop → Standing ℕ → List ℕ → Type 0
Tried s n p bs before old (Ok u) after new = Called s bs before old after new
Tried s n p bs before old (Err (Fault f)) after new = (taken n p bs ≡ Err f) × (after ≡ before) × (new ≡ old)
Tried s n p bs before old (Err (Memory e)) after new = Unit {0}

-- The records are C, and their calls were made, with a line for each.
pub record Performed (s : Setting ℕ ℕ) (records : List (List ℕ)) (before : Standing ℕ) (old : List ℕ) (after : Standing ℕ) (new : List ℕ) : Type 0 where
  pub calls : List Call
  pub answers : List Answer
  pub are : records ≡ call_records calls
  pub ran : Run s (map asked calls) answers before after
  pub lines : new ≡ old ++ call_lines before.bench.book.levels.present calls answers

-- The first of the records are such, and what follows them is at fault.
pub record Broken (s : Setting ℕ ℕ) (n : ℕ) (p : Place) (records : List (List ℕ)) (left : ℕ) (before : Standing ℕ) (old : List ℕ) (f : ReaderFault) (after : Standing ℕ) (new : List ℕ) : Type 0 where
  pub front : List (List ℕ)
  pub rest : List (List ℕ)
  pub cut : records ≡ front ++ rest
  pub performed : Performed s front before old after new
  pub bad : Bad (n + length front) p rest left f

-- What came of the records from number n on, for a reader at p, with so many bytes left over after them.
abbrev pub Went : Setting ℕ ℕ → ℕ → Place → List (List ℕ) → ℕ → Standing ℕ → List ℕ → Result (Unit {0}) Stop → Standing ℕ → List ℕ → Type 0
Went s n p records left before old (Ok u) after new = Performed s records before old after new × (left ≡ 0)
Went s n p records left before old (Err (Fault f)) after new = Broken s n p records left before old f after new
Went s n p records left before old (Err (Memory e)) after new = Unit {0}

-- A map byte is not admitted, and the fault says which is the first, and that it was found at record n.
pub record RefusedAt (n : ℕ) (first : ℕ → Type 0) (f : ReaderFault) : Type 0 where
  pub pixel : ℕ
  pub found : first pixel
  pub is : f ≡ Bench (Map (Inadmissible pixel)) n
