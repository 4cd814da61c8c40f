-- The first bad record of a job. Assumes nothing.
use Rattle.std.specs.Prelude.{◌≡◌, ℕ, List, [], ◌∷◌, ◌++◌, length, Some, None, Err, Option}
use Rattle.criteria.specs.declared.fault.MapFault.TheVariants.{Inadmissible}
use Rattle.maps.specs.Admission.{FirstNot}
use Rattle.bench.specs.declared.fault.BenchFault.TheVariants.{Map}
use Rattle.records.specs.declared.fault.ReaderFault.{ReaderFault}
use Rattle.records.specs.declared.fault.ReaderFault.TheVariants.{Bench}
use Rattle.records.specs.declared.records.Head.{Head}
use Rattle.records.specs.declared.place.Place.{Place}
use Rattle.records.specs.declared.place.Place.TheVariants as place
use Rattle.records.specs.Records.{pixels}
use Rattle.records.specs.Reading.{taken, ended, judged}
use Rattle.records.specs.Jobs.{Job, tile_records, records_of, Tile, Sound, Unfinished}

-- What is wrong once n records were sound and left the reader at p: the records that follow, the number of bytes left over after them, and the fault.
pub data Bad (n : ℕ) (p : Place) : List (List ℕ) → ℕ → ReaderFault → Type 0 where
  -- the next record does not pass its checks
  by_record : {bs : List ℕ} {more : List (List ℕ)} {left : ℕ} {f : ReaderFault} → taken n p bs ≡ Err f → Bad n p (bs ∷ more) left f
  -- no record follows, and bytes are left over, or the end comes out of turn
  by_end : {left : ℕ} {f : ReaderFault} → ended n left p ≡ Err f → Bad n p [] left f

-- A fault ends the reading of these records, with so many bytes left over after them: before a picture is seated, or among the calls of a job.
pub data Stops (records : List (List ℕ)) (left : ℕ) : Option Job → ReaderFault → Type 0 where
  in_tile : {p : Place} {front rest : List (List ℕ)} {f : ReaderFault} →
      Unfinished p front → Bad (length front) p rest left f → records ≡ front ++ rest → Stops records left None f
  -- at the last P, whose number is the count of pixels, a map byte is found that is not admitted
  at_seat : (h : Head) (map grey : List ℕ) (rest : List (List ℕ)) {i : ℕ} →
      Tile h map grey → FirstNot (judged h).admits map (Some i) → records ≡ tile_records h map grey ++ rest →
      Stops records left None (Bench (Map (Inadmissible i)) (pixels h))
  in_calls : (j : Job) {rest : List (List ℕ)} {f : ReaderFault} →
      Sound j → Bad (length (records_of j)) (place.Calls j.head) rest left f → records ≡ records_of j ++ rest → Stops records left (Some j) f
