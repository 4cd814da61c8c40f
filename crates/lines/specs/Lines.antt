-- Lines of text. Assumes nothing.
use Rattle.std.specs.Prelude.{ℕ, zero, suc, List, [], ◌∷◌, ◌++◌, take, drop, flat_map, Some, None, codes, decimal, Option}
use Rattle.std.proofs.Math.Utf8.{encode}
use Rattle.criteria.specs.Faults.{layer_letter}
use Rattle.criteria.specs.declared.fault.Code.{Code}

abbrev pub newline : List ℕ
newline = 10 ∷ []

-- `at` and the record number, where the reader added one
abbrev pub at_record : Option ℕ → List ℕ
at_record None = []
at_record (Some n) = codes " at " ++ decimal n

-- `fault`, layer, number and place, and the record number where there is one
abbrev pub fault_text : Code → Option ℕ → List ℕ
fault_text c at = codes "fault " ++ (encode (layer_letter c.layer) ++ (codes " " ++ (decimal c.number ++ (codes " " ++ (decimal c.place ++ at_record at)))))

-- the line of a fault
abbrev pub fault_line : Code → Option ℕ → List ℕ
fault_line c at = fault_text c at ++ newline

-- each value with a space before it
abbrev pub spaced : List ℕ → List ℕ
spaced vs = flat_map (λ v. codes " " ++ decimal v) vs

-- a row of values, parted by one space
abbrev pub row_text : List ℕ → List ℕ
row_text [] = []
row_text (v ∷ vs) = decimal v ++ spaced vs

-- the first h rows of w values, a line each
abbrev pub rows_text : ℕ → ℕ → List ℕ → List ℕ
rows_text w zero vs = []
rows_text w (suc h) vs = row_text (take w vs) ++ (newline ++ rows_text w h (drop w vs))
