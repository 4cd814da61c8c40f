-- What the reader has while it reads the tile of a job. Assumes nothing.
use Rattle.std.specs.Prelude.{◌≡◌, ℕ, ◌<◌, ◌≤◌, List, [], length, None}
use Rattle.maps.specs.Checks.{first_fault}
use Rattle.records.specs.declared.records.Head.{Head}
use Rattle.records.specs.declared.place.Place.{Place}
use Rattle.records.specs.declared.place.Place.TheVariants as place
use Rattle.records.specs.Records.{byte, pixels}
use Rattle.records.specs.Reading.{head_checks, among}
use Rattle.records.specs.Jobs.{tile_records}

-- A record has eight bytes. Of their bounds, that of the low byte of a pixel number is needed.
pub record Eight (bs : List ℕ) : Type 0 where
  pub count : length bs ≡ 8
  pub low : byte bs 1 < 256

-- After these records the reader is here, and these are the map bytes and the grey bytes so far.
pub data SoFar : List ℕ → List ℕ → Place → List (List ℕ) → Type 0 where
  no_head : SoFar [] [] place.Head []
  pixels_of : (h : Head) (map grey : List ℕ) → first_fault (head_checks h) ≡ None → length grey ≡ length map → length map ≤ pixels h →
      SoFar map grey (among h (length map)) (tile_records h map grey)
