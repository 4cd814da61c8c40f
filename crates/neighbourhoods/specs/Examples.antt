-- Worked examples on one map. Assumes nothing.
use Rattle.std.specs.Prelude.{◌≡◌, ℕ, List, [], ◌∷◌}
use Rattle.scales.specs.Grey.{grey}
use Rattle.criteria.specs.Bytes.{by_step}
use Rattle.maps.specs.Windows.{window}
use Rattle.maps.specs.Grounds.{ground_of}
use Rattle.morphology.specs.Neighbourhoods.{Ground}
use Rattle.morphology.specs.Pictures.{dilation, erosion}
use Rattle.morphology.specs.Algebra.{times, closing}
use Rattle.neighbourhoods.specs.Sheets.{weak_sheet, symmetric_sheet}

-- the map 0 10 20 30 100, five wide and one high, with joining 4, by step 10
abbrev pub slope : Ground
slope = ground_of (by_step 10) (window (0 ∷ 10 ∷ 20 ∷ 30 ∷ 100 ∷ []) 5 1 4)

-- a grey picture on it
abbrev pub spots : List ℕ
spots = 9 ∷ 2 ∷ 2 ∷ 2 ∷ 4 ∷ []

-- the sheets of neighbourhoods on it
pub record ReachExamples : Type 0 where
  pub weak_of_0 : weak_sheet slope 0 ≡ 1 ∷ 1 ∷ 0 ∷ 0 ∷ 0 ∷ []
  pub weak_of_1 : weak_sheet slope 1 ≡ 1 ∷ 1 ∷ 1 ∷ 0 ∷ 0 ∷ []
  pub symmetric_of_0 : symmetric_sheet slope 0 ≡ 1 ∷ 1 ∷ 1 ∷ 0 ∷ 0 ∷ []
  pub symmetric_of_1 : symmetric_sheet slope 1 ≡ 1 ∷ 1 ∷ 1 ∷ 1 ∷ 0 ∷ []
  pub symmetric_of_3 : symmetric_sheet slope 3 ≡ 0 ∷ 1 ∷ 1 ∷ 1 ∷ 0 ∷ []

-- the picture filtered
pub record FilterExamples : Type 0 where
  pub dilate_1 : times 1 (dilation grey slope) spots ≡ 9 ∷ 9 ∷ 9 ∷ 2 ∷ 4 ∷ []
  pub erode_1 : times 1 (erosion grey slope) spots ≡ 2 ∷ 2 ∷ 2 ∷ 2 ∷ 4 ∷ []
  pub close_1 : closing (dilation grey slope) (erosion grey slope) 1 spots ≡ 9 ∷ 2 ∷ 2 ∷ 2 ∷ 4 ∷ []
  pub close_2 : closing (dilation grey slope) (erosion grey slope) 2 spots ≡ 9 ∷ 9 ∷ 9 ∷ 9 ∷ 4 ∷ []
