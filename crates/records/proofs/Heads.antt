-- The checks of an H. Assumes nothing.
use Rattle.std.proofs.Common.{◌≡◌, ◌<◌, true, None, Ok, sym, refl, mul-pos}
use Rattle.std.proofs.lemmas.Bool.{lt-ltb}
use Rattle.maps.specs.Checks.{first_fault}
use Rattle.maps.specs.Tiles.{is_tile}
use Rattle.maps.proofs.Figures.{tile_of, TileOf}
use Rattle.records.specs.declared.records.Head.{Head}
use Rattle.records.specs.declared.place.Place.TheVariants.{Pixels}
use Rattle.records.specs.Reading.{head_checks, head_answer}
use Rattle.records.specs.Records.{pixels}
use Rattle.records.specs.Bounds.{sound}
use Rattle.maps.proofs.Answering.{first_passes}
use Rattle.records.proofs.Checking.{reported}

-- the tile of a head that passes
pub passing_tile : (h : Head) → first_fault (head_checks h) ≡ None → TileOf h.width h.height
passing_tile h passes = tile_of h.width h.height (first_passes (is_tile h.width h.height) _ _ passes).0

pub some_pixel : (h : Head) → first_fault (head_checks h) ≡ None → 0 < pixels h
some_pixel h passes = let t = passing_tile h passes in mul-pos t.some_width t.some_height

-- an H that is answered passes, and pixel 0 is one of its tile
pub head_passes : (h : Head) → head_answer h ≡ Ok tt → sound (Pixels h 0) ≡ true
head_passes h e =
    let none = reported (first_fault (head_checks h)) tt (sym e) in
    rw (none, lt-ltb 0 (pixels h) (some_pixel h none)) refl
