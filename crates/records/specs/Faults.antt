-- The layer, the number and the place of each fault that a job can meet. Assumes nothing.
use Rattle.std.specs.Prelude.{ℕ, List, Some, None, Option}
use Rattle.criteria.specs.declared.fault.Layer.TheVariants as layer
use Rattle.criteria.specs.declared.fault.Code.{Code}
use Rattle.lines.specs.Lines.{fault_line}
use Rattle.bench.specs.Faults.{bench_code}
use Rattle.records.specs.declared.fault.ReaderFault.{ReaderFault}
use Rattle.records.specs.declared.fault.ReaderFault.TheVariants.{Torn, Letter, Order, Filler, Bench}

-- the reader's own faults have the record number as their place
abbrev pub reader_code : ReaderFault → Code
reader_code (Torn n) = record { layer = layer.Job; number = 11; place = n }
reader_code (Letter n) = record { layer = layer.Job; number = 12; place = n }
reader_code (Order n) = record { layer = layer.Job; number = 13; place = n }
reader_code (Filler n) = record { layer = layer.Job; number = 14; place = n }
reader_code (Bench f n) = bench_code f

-- the record number that the reader adds to a fault from below
abbrev pub record_of_fault : ReaderFault → Option ℕ
record_of_fault (Torn n) = None
record_of_fault (Letter n) = None
record_of_fault (Order n) = None
record_of_fault (Filler n) = None
record_of_fault (Bench f n) = Some n

-- the line of a fault
abbrev pub line_of_fault : ReaderFault → List ℕ
line_of_fault f = fault_line (reader_code f) (record_of_fault f)
