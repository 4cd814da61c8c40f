-- What holds of the reader wherever it is. Assumes nothing.
use Rattle.std.specs.Prelude.{Bool, true, ◌&&◌, nat_lt}
use Rattle.records.specs.declared.place.Place.{Place}
use Rattle.records.specs.declared.place.Place.TheVariants as place
use Rattle.records.specs.Records.{pixels}
use Rattle.records.specs.Reading.{passes}

-- once it is read, the head passes its checks; while pixels are read, the next one is a pixel of the tile
abbrev pub sound : Place → Bool
sound place.Head = true
sound (place.Pixels h next) = passes h && nat_lt next (pixels h)
sound (place.Calls h) = passes h
