-- The checks of seat and of a filter call, each list in the order in which faults are looked for. Assumes nothing.
use Rattle.std.specs.Prelude.{ℕ, ◌-◌, Bool, ◌&&◌, List, [], ◌∷◌, ◌++◌, length, ℤ, ◌==◌, nat_le, nat_lt, unsigned_abs}
use Rattle.criteria.specs.Criteria.{Judgement}
use Rattle.criteria.specs.declared.fault.MapFault.{MapFault}
use Rattle.maps.specs.declared.map.Map.{Map}
use Rattle.maps.specs.Checks.{Check}
use Rattle.maps.specs.Windows.{pixels_of}
use Rattle.maps.specs.Admission.{admission_check}
use Rattle.morphology.specs.Calls.{Call}
use Rattle.morphology.specs.Levels.{touched}
use Rattle.maps.specs.declared.tile.Tile.{Tile}
use Rattle.maps.specs.Joinings.{number_of}
use Rattle.operators.specs.declared.room.Room.{Room}
use Rattle.bench.specs.declared.fault.BenchFault.{BenchFault}
use Rattle.bench.specs.declared.fault.BenchFault.TheVariants as fault
use Rattle.bench.specs.declared.fault.Misfit.TheVariants as misfit
use Rattle.criteria.specs.declared.fault.Part.TheVariants as part
use Rattle.bench.specs.Settings.{Setting, Standing, Asked}

-- a check of the map layer, its fault inside one of the bench layer
abbrev pub from_map : Check MapFault → Check BenchFault
from_map c = record { holds = c.holds; fault = fault.Map c.fault }

-- the map has a pixel
abbrev pub some_pixel : {V : Type 0} → Map V → Check BenchFault
some_pixel map = record { holds = nat_lt 0 (pixels_of map); fault = fault.Misfit misfit.Map }

-- the picture has a value for each pixel
abbrev pub picture_fits : {V : Type 0} → Map V → ℕ → Check BenchFault
picture_fits map count = record { holds = (count == pixels_of map); fault = fault.Misfit misfit.Picture }

-- the checks of seat, of a picture of this many values
abbrev pub seat_checks : {V : Type 0} → Judgement V → Map V → ℕ → List (Check BenchFault)
seat_checks j map count = some_pixel map ∷ picture_fits map count ∷ from_map (admission_check j map) ∷ []

-- the test whether the map has a pixel, and this width, height and joining
abbrev pub matches : {V : Type 0} → Map V → Tile → Bool
matches map t = nat_lt 0 (pixels_of map) && (map.tile.width == t.width && (map.tile.height == t.height && number_of map.tile.joining == number_of t.joining))

-- each part of the scratch has an entry for each of n pixels
abbrev pub scratch_checks : ℕ → Room → List (Check BenchFault)
scratch_checks n room =
    record { holds = nat_le n room.marks; fault = fault.Scratch part.Marks }
    ∷ record { holds = nat_le n room.queue; fault = fault.Scratch part.Queue }
    ∷ record { holds = nat_le n room.spare; fault = fault.Scratch part.Spare }
    ∷ []

-- a size is 1 to 16
abbrev pub size_check : ℕ → Check BenchFault
size_check p = record { holds = nat_le 1 p && nat_le p 16; fault = fault.Size p }

-- how far a level lies outside −64 to 64
abbrev pub outside : ℤ → ℕ
outside z = unsigned_abs z - 64

-- a touched level lies inside
abbrev pub level_check : ℤ → Check BenchFault
level_check z = record { holds = (outside z == 0); fault = fault.Level (outside z) }

-- the book has room for one more
abbrev pub book_check : ℕ → Check BenchFault
book_check count = record { holds = nat_lt count 60000; fault = fault.Book }

-- the checks of a call from level z, after this many accepted calls
abbrev pub level_checks : Call → ℤ → ℕ → List (Check BenchFault)
level_checks c z count = size_check c.size ∷ level_check (touched c.operation c.size z) ∷ book_check count ∷ []

-- the scratch suffices, and the map's values are admitted
abbrev pub room_checks : {V : Type 0} → Judgement V → Map V → Room → List (Check BenchFault)
room_checks j map room = scratch_checks (pixels_of map) room ++ from_map (admission_check j map) ∷ []

-- the checks of what a call is handed, the map's tile and the picture's count first
abbrev pub handed_checks : {V : Type 0} → Judgement V → Map V → Tile → ℕ → Room → List (Check BenchFault)
handed_checks j map t count room =
    record { holds = matches map t; fault = fault.Misfit misfit.Map } ∷ picture_fits map count ∷ room_checks j map room

-- all checks of a filter call
abbrev pub filter_checks : {V S : Type 0} → Setting V S → Asked → Standing S → List (Check BenchFault)
filter_checks s a at =
    handed_checks s.judgement s.map at.bench.tile (length at.picture) a.room
    ++ level_checks a.call at.bench.book.levels.present at.bench.book.count
