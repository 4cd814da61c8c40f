-- The theorems, as statements. Assumes nothing.
use Rattle.std.specs.Prelude.{◌≡◌, ℕ, ◌+◌, ◌*◌, ◌<◌, ◌⊎◌, List, [], length, ℤ, pos, ◌-ℤ◌, ◌≤ℤ◌, Decides}
use Rattle.scales.specs.Scales.{Grading}
use Rattle.morphology.specs.declared.calls.Levels.{Levels}
use Rattle.morphology.specs.Tile.{row, column, Joined, joined}
use Rattle.morphology.specs.Neighbourhoods.{Ground, pixels, Weak, Symmetric, NearItself}
use Rattle.morphology.specs.Tables.{weak, symmetric}
use Rattle.morphology.specs.Pictures.{Under, Dilated, Eroded, dilation, erosion}
use Rattle.morphology.specs.Algebra.{Adjunction, times, opening, closing}
use Rattle.morphology.specs.Calls.{Call, run, Lowering, Raising, Opening, Closing, Only, largest}
use Rattle.morphology.specs.Levels.{at_zero, levels_after, steps, Touches, dilated, eroded}

-- Pixel r × width + c lies in row r and column c, and the test for joined pixels decides which are joined.
pub record LawsOfTile (width joining : ℕ) : Type 0 where
  pub row_is : (r c : ℕ) → c < width → row width (r * width + c) ≡ r
  pub column_is : (r c : ℕ) → c < width → column width (r * width + c) ≡ c
  pub joined_decided : (x y : ℕ) → Decides (joined width joining x y) (Joined width joining x y)

-- The tests decide the neighbourhoods.
pub record LawsOfNeighbourhoods (g : Ground) : Type 0 where
  pub weak_decided : (z y : ℕ) → Decides (weak g z y) (Weak g z y)
  pub symmetric_decided : (x y : ℕ) → Decides (symmetric g x y) (Symmetric g x y)

-- Dilation gives the joins and erosion the meets over the symmetric neighbourhoods, no other picture has them, and the two are adjoint.
pub record LawsOfOperators {V : Type 0} (scale : Grading V) (g : Ground) : Type 0 where
  pub dilation_is : {f : List V} → NearItself g → length f ≡ pixels g → Dilated scale g f (dilation scale g f)
  pub dilation_only : {f r : List V} → NearItself g → length f ≡ pixels g → Dilated scale g f r → r ≡ dilation scale g f
  pub erosion_is : {f : List V} → NearItself g → length f ≡ pixels g → Eroded scale g f (erosion scale g f)
  pub erosion_only : {f r : List V} → NearItself g → length f ≡ pixels g → Eroded scale g f r → r ≡ erosion scale g f
  pub adjoint : Adjunction (Under scale) (dilation scale g) (erosion scale g)

-- Where any list of calls takes a picture f, by a dilation δ and an erosion ε.
pub record LawsOfRuns {P : Type 0} (below : P → P → Type 0) (δ ε : P → P) : Type 0 where
  -- at or above f eroded to the lowest level touched and then dilated to the present one
  pub floor : (calls : List Call) (f : P) → let l = levels_after calls at_zero in
      below (times (steps l.lowest l.present) δ (times (steps l.lowest (pos 0)) ε f)) (run δ ε calls f)
  -- at or below f dilated to the highest level touched and then eroded to the present one
  pub ceiling : (calls : List Call) (f : P) → let l = levels_after calls at_zero in
      below (run δ ε calls f) (times (steps l.present l.highest) ε (times (steps (pos 0) l.highest) δ f))
  -- erodes and opens alone never raise, dilates and closes alone never lower
  pub lowering : (calls : List Call) (f : P) → Only Lowering calls → below (run δ ε calls f) f
  pub raising : (calls : List Call) (f : P) → Only Raising calls → below f (run δ ε calls f)

-- Opens alone come to one opening by the greatest size, closes alone to one closing, and no calls to the picture itself, as does size 0.
pub record LawsOfOpenings {P : Type 0} (δ ε : P → P) : Type 0 where
  pub openings : (calls : List Call) (f : P) → Only Opening calls → run δ ε calls f ≡ opening δ ε (largest calls) f
  pub closings : (calls : List Call) (f : P) → Only Closing calls → run δ ε calls f ≡ closing δ ε (largest calls) f
  pub no_calls : (f : P) → run δ ε [] f ≡ f
  pub opening_by_0 : (f : P) → opening δ ε 0 f ≡ f
  pub closing_by_0 : (f : P) → closing δ ε 0 f ≡ f

-- m is at or below 0 and each level that the calls touch from level 0, and is 0 or one of them.
pub record LowestOf (calls : List Call) (m : ℤ) : Type 0 where
  pub under_start : m ≤ℤ pos 0
  pub under_each : (t : ℤ) → Touches (pos 0) calls t → m ≤ℤ t
  pub one_of : (m ≡ pos 0) ⊎ Touches (pos 0) calls m

-- m is at or above 0 and each level that the calls touch from level 0, and is 0 or one of them.
pub record HighestOf (calls : List Call) (m : ℤ) : Type 0 where
  pub over_start : pos 0 ≤ℤ m
  pub over_each : (t : ℤ) → Touches (pos 0) calls t → t ≤ℤ m
  pub one_of : (m ≡ pos 0) ⊎ Touches (pos 0) calls m

-- The levels l after a list of calls from level 0: the present one is the dilates' sizes less the erodes', between the other two.
pub record LawsOfLevels (calls : List Call) (l : Levels) : Type 0 where
  pub present_is : l.present ≡ pos (dilated calls) -ℤ pos (eroded calls)
  pub lowest_is : LowestOf calls l.lowest
  pub highest_is : HighestOf calls l.highest
  pub low : l.lowest ≤ℤ l.present
  pub high : l.present ≤ℤ l.highest
