-- What a job's records come to. Assumes nothing.
use Rattle.std.specs.Prelude.{◌≡◌, ℕ, ◌+◌, length, Bool, List, [], ◌∷◌, ◌++◌, Some, None, Ok, Err, Option, Result}
use Rattle.criteria.specs.declared.fault.MapFault.{MapFault}
use Rattle.maps.specs.Checks.{Check, first_fault, answered}
use Rattle.maps.specs.Admission.{first_not, none_check}
use Rattle.bench.specs.declared.fault.BenchFault.{BenchFault}
use Rattle.records.specs.declared.fault.ReaderFault.{ReaderFault}
use Rattle.records.specs.declared.records.Head.{Head}
use Rattle.records.specs.declared.records.Record.{Record}
use Rattle.records.specs.declared.records.Record.TheVariants as sound
use Rattle.records.specs.declared.place.Place.{Place}
use Rattle.records.specs.declared.place.Place.TheVariants as place
use Rattle.records.specs.Records.{pixels, map_bytes, grey_bytes}
use Rattle.records.specs.Reading.{through_bench, from_below, judged, taken, place_after, ended}
use Rattle.records.specs.Jobs.{records_in, left_over}

-- What the reader has: its place, the map bytes and the grey bytes so far, and how many calls.
pub record Progress : Type 0 where
  pub place : Place
  pub map : List ℕ
  pub picture : List ℕ
  pub calls : ℕ

-- how many pixels are read
abbrev pub pixels_read : Place → ℕ
pixels_read place.Head = 0
pixels_read (place.Pixels h next) = next
pixels_read (place.Calls h) = pixels h

-- There are as many map bytes and grey bytes as pixels were read.
pub record Filled (s : Progress) : Type 0 where
  pub map_count : length s.map ≡ pixels_read s.place
  pub grey_count : length s.picture ≡ pixels_read s.place

-- a C is one call more
abbrev pub calls_after : Record → ℕ → ℕ
calls_after (sound.Head h) k = k
calls_after (sound.Pixel v g) k = k
calls_after (sound.Call o s) k = k + 1

-- what a record leaves: a bad one changes nothing
abbrev pub progress_after : Result Record ReaderFault → Progress → Progress
progress_after (Ok r) s = record { place = place_after (Ok r) s.place; map = s.map ++ map_bytes r; picture = s.picture ++ grey_bytes r; calls = calls_after r s.calls }
progress_after (Err f) s = s

-- the map is laid when its last pixel is read: all its values are admitted
abbrev pub lay_checks : (ℕ → Bool) → List ℕ → List (Check MapFault)
lay_checks admits values = none_check (first_not admits values) ∷ []

abbrev pub lay_answer : (ℕ → Bool) → List ℕ → Result (Unit {0}) BenchFault
lay_answer admits values = answered (through_bench (first_fault (lay_checks admits values))) tt

-- what is wrong with the map at record n, once the reader is here
abbrev pub laid : ℕ → Place → List ℕ → Option ReaderFault
laid n place.Head map = None
laid n (place.Pixels h next) map = None
laid n (place.Calls h) map = first_fault (from_below n (lay_checks (judged h).admits map))

-- what is wrong with record n, taken so, once the reader has this
abbrev pub outcome : ℕ → Result Record ReaderFault → Progress → Option ReaderFault
outcome n (Ok (sound.Head h)) s = None
outcome n (Ok (sound.Pixel v g)) s = laid n s.place s.map
outcome n (Ok (sound.Call o k)) s = None
outcome n (Err f) s = Some f

-- what the reader has after record n
abbrev pub reached : ℕ → Progress → List ℕ → Progress
reached n s bs = progress_after (taken n s.place bs) s

-- what is wrong with record n, if anything
abbrev pub record_fault : ℕ → Progress → List ℕ → Option ReaderFault
record_fault n s bs = outcome n (taken n s.place bs) (reached n s bs)

-- What a job comes to: the head of its tile or the fault that ended it, and what the reader has then.
pub record Reading : Type 0 where
  pub end : Result Head ReaderFault
  pub left : Progress

-- the first bad record ends the reading, and a sound one leads on
abbrev pub next_reading : Option ReaderFault → Progress → (Progress → Reading) → Reading
next_reading None s onward = onward s
next_reading (Some f) s onward = record { end = Err f; left = s }

-- the records from number n on, with so many bytes left over after the last
abbrev pub read_on : ℕ → List (List ℕ) → ℕ → Progress → Reading
read_on n [] rest s = record { end = ended n rest s.place; left = s }
read_on n (bs ∷ more) rest s = next_reading (record_fault n s bs) (reached n s bs) (read_on (n + 1) more rest)

-- the records of a job are numbered from 0
abbrev pub reading_from : List ℕ → Progress → Reading
reading_from bs s = read_on 0 (records_in bs) (left_over bs) s

-- no record is read
abbrev pub fresh : Progress
fresh = record { place = place.Head; map = []; picture = []; calls = 0 }
