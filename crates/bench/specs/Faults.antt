-- The layer, the number and the place of each fault that the bench layer answers. Assumes nothing.
use Rattle.std.specs.Prelude.{ℕ}
use Rattle.criteria.specs.declared.fault.Code.{Code}
use Rattle.criteria.specs.declared.fault.Layer.TheVariants as layer
use Rattle.criteria.specs.Faults.{place_of_part, map_code}
use Rattle.bench.specs.declared.fault.Misfit.{Misfit}
use Rattle.bench.specs.declared.fault.Misfit.TheVariants as misfit
use Rattle.bench.specs.declared.fault.BenchFault.{BenchFault}
use Rattle.bench.specs.declared.fault.BenchFault.TheVariants as fault

-- 1 for the map, 2 for a picture
abbrev pub place_of_misfit : Misfit → ℕ
place_of_misfit misfit.Map = 1
place_of_misfit misfit.Picture = 2

-- a fault of the map layer travels up whole, and the others are the bench layer's own
abbrev pub bench_code : BenchFault → Code
bench_code (fault.Map f) = map_code f
bench_code fault.Tile = record { layer = layer.Bench; number = 1; place = 0 }
bench_code (fault.Misfit m) = record { layer = layer.Bench; number = 4; place = place_of_misfit m }
bench_code (fault.Scratch p) = record { layer = layer.Bench; number = 6; place = place_of_part p }
bench_code (fault.Size size) = record { layer = layer.Bench; number = 7; place = size }
bench_code (fault.Level far) = record { layer = layer.Bench; number = 8; place = far }
bench_code fault.Book = record { layer = layer.Bench; number = 9; place = 0 }
