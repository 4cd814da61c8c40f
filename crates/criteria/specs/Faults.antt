-- The layer, the number and the place of each fault. Assumes nothing.
use Rattle.std.specs.Prelude.{ℕ}
use Rattle.criteria.specs.declared.fault.Layer.{Layer}
use Rattle.criteria.specs.declared.fault.Layer.TheVariants as layer
use Rattle.criteria.specs.declared.fault.Code.{Code}
use Rattle.criteria.specs.declared.fault.Counted.{Counted}
use Rattle.criteria.specs.declared.fault.Counted.TheVariants as counted
use Rattle.criteria.specs.declared.fault.Part.{Part}
use Rattle.criteria.specs.declared.fault.Part.TheVariants as part
use Rattle.criteria.specs.declared.fault.MapFault.{MapFault}
use Rattle.criteria.specs.declared.fault.MapFault.TheVariants.{Tile, Joining, Tolerance, Misfit, Inadmissible, Scratch, Pixel}

-- the letter that names a layer: 77 is M, 66 is B, 74 is J
abbrev pub layer_letter : Layer → ℕ
layer_letter layer.Map = 77
layer_letter layer.Bench = 66
layer_letter layer.Job = 74

-- 1 for the values of a map, 2 for the bytes of a sheet
abbrev pub place_of_count : Counted → ℕ
place_of_count counted.Values = 1
place_of_count counted.Sheet = 2

-- 1 for the marks, 2 for the queue, 3 for the spare
abbrev pub place_of_part : Part → ℕ
place_of_part part.Marks = 1
place_of_part part.Queue = 2
place_of_part part.Spare = 3

-- the faults of criteria, maps and reach
abbrev pub map_code : MapFault → Code
map_code Tile = record { layer = layer.Map; number = 1; place = 0 }
map_code (Joining j) = record { layer = layer.Map; number = 2; place = j }
map_code Tolerance = record { layer = layer.Map; number = 3; place = 0 }
map_code (Misfit c) = record { layer = layer.Map; number = 4; place = place_of_count c }
map_code (Inadmissible p) = record { layer = layer.Map; number = 5; place = p }
map_code (Scratch p) = record { layer = layer.Map; number = 6; place = place_of_part p }
map_code (Pixel p) = record { layer = layer.Map; number = 10; place = p }
