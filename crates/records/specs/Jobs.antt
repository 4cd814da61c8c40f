-- Jobs, and how they lie in records. Assumes nothing.
use Rattle.std.specs.Prelude.{◌≡◌, ℕ, ◌+◌, ◌/◌, ◌%◌, ◌<◌, List, [], ◌∷◌, ◌++◌, length, None}
use Rattle.std.specs.Simd.{first_chunks}
use Rattle.std.specs.List.{concat}
use Rattle.maps.specs.Checks.{first_fault}
use Rattle.maps.specs.Admission.{FirstNot}
use Rattle.morphology.specs.Calls.{Call}
use Rattle.records.specs.declared.records.Head.{Head}
use Rattle.records.specs.declared.records.Record.TheVariants as sound
use Rattle.records.specs.declared.place.Place.{Place}
use Rattle.records.specs.declared.place.Place.TheVariants as place
use Rattle.records.specs.Records.{pixels}
use Rattle.records.specs.Reading.{head_checks, judged}
use Rattle.records.specs.Encoding.{encoded}

-- A head, a map byte and a grey byte for each pixel, and calls.
pub record Job : Type 0 where
  pub head : Head
  pub map : List ℕ
  pub grey : List ℕ
  pub calls : List Call

-- a P for each pixel, from number i on
abbrev pub pixel_records : ℕ → List ℕ → List ℕ → List (List ℕ)
pixel_records i [] grey = []
pixel_records i (v ∷ map) [] = []
pixel_records i (v ∷ map) (g ∷ grey) = encoded i (sound.Pixel v g) ∷ pixel_records (i + 1) map grey

-- an H, and a P for each pixel so far
abbrev pub tile_records : Head → List ℕ → List ℕ → List (List ℕ)
tile_records h map grey = encoded 0 (sound.Head h) ∷ pixel_records 0 map grey

-- the C of a call
abbrev pub call_record : Call → List ℕ
call_record c = encoded 0 (sound.Call c.operation c.size)

-- a C for each call
abbrev pub call_records : List Call → List (List ℕ)
call_records [] = []
call_records (c ∷ calls) = call_record c ∷ call_records calls

-- the records of a job: one H, a P for each pixel, a C for each call
abbrev pub records_of : Job → List (List ℕ)
records_of j = tile_records j.head j.map j.grey ++ call_records j.calls

-- the bytes of a job
abbrev pub job_bytes : Job → List ℕ
job_bytes j = concat (records_of j)

-- the records of a job are its runs of eight bytes
abbrev pub records_in : List ℕ → List (List ℕ)
records_in bs = first_chunks 8 (length bs / 8) bs

-- how many bytes are left over after them
abbrev pub left_over : List ℕ → ℕ
left_over bs = length bs % 8

-- The head passes its checks, and there is a map byte and a grey byte for each pixel.
pub record Tile (h : Head) (map grey : List ℕ) : Type 0 where
  pub passes : first_fault (head_checks h) ≡ None
  pub map_count : length map ≡ pixels h
  pub grey_count : length grey ≡ pixels h

-- A job can be done: its tile is whole, and its criterion admits every map byte.
pub record Sound (j : Job) : Type 0 where
  pub tile : Tile j.head j.map j.grey
  pub admitted : FirstNot (judged j.head).admits j.map None

-- The records so far of a tile that is not whole, and where they leave the reader.
pub data Unfinished : Place → List (List ℕ) → Type 0 where
  no_head : Unfinished place.Head []
  some_pixels : (h : Head) (map grey : List ℕ) → first_fault (head_checks h) ≡ None → length grey ≡ length map → length map < pixels h →
      Unfinished (place.Pixels h (length map)) (tile_records h map grey)
