-- The steps from a pixel, and where they lead in a tile. Assumes nothing.
use Rattle.std.specs.Prelude.{◌≡◌, ℕ, ◌+◌, ◌-◌, ◌*◌, ◌<◌, cond, List, [], ◌∷◌, map, take, Some, None, Option, ◌==◌, nat_lt}
use Rattle.morphology.specs.Tile.{row, column, Joined}
use Rattle.morphology.specs.Pictures.{At}
use Rattle.neighbourhoods.specs.declared.steps.Shift.{Shift}
use Rattle.neighbourhoods.specs.declared.steps.Shift.TheVariants.{Back, Stay, On}
use Rattle.neighbourhoods.specs.declared.steps.Step.{Step}
use Rattle.neighbourhoods.specs.declared.place.Place.{Place}

-- where a shift leads from a row, of rows 0 to side − 1; the same of columns
abbrev pub shifted : ℕ → Shift → ℕ → Option ℕ
shifted side Back from = cond (nat_lt 0 from) (Some (from - 1)) None
shifted side Stay from = Some from
shifted side On from = cond (nat_lt (from + 1) side) (Some (from + 1)) None

-- the step by a shift of the row and a shift of the column
abbrev pub by_shifts : Shift → Shift → Step
by_shifts rows columns = record { rows = rows; columns = columns }

-- the four straight steps, then the four to the corners
abbrev pub all_steps : List Step
all_steps =
    by_shifts Back Stay ∷ by_shifts On Stay ∷ by_shifts Stay Back ∷ by_shifts Stay On
    ∷ by_shifts Back Back ∷ by_shifts Back On ∷ by_shifts On Back ∷ by_shifts On On ∷ []

-- the steps of a joining: all with joining 8, else the straight ones
abbrev pub steps_of : ℕ → List Step
steps_of joining = cond (joining == 8) all_steps (take 4 all_steps)

-- where pixel p lies in a tile of this width
abbrev pub place_of : ℕ → ℕ → Place
place_of width p = record { row = row width p; column = column width p }

-- the pixel in a row and a column, if there are both
abbrev pub pixel_in : ℕ → Option ℕ → Option ℕ → Option ℕ
pixel_in width (Some r) (Some c) = Some (r * width + c)
pixel_in width (Some r) None = None
pixel_in width None (Some c) = None
pixel_in width None None = None

-- the pixel that a step leads to from a place in a tile of these sides, if it stays in the tile
abbrev pub led : ℕ → ℕ → Step → Place → Option ℕ
led width height s at = pixel_in width (shifted height s.rows at.row) (shifted width s.columns at.column)

-- where the steps of a joining lead from pixel p
abbrev pub neighbours : ℕ → ℕ → ℕ → ℕ → List (Option ℕ)
neighbours width height joining p = map (λ s. led width height s (place_of width p)) (steps_of joining)

-- the step of this number, among those of a joining, leads from pixel p to pixel q
pub record Leads (width height joining p number q : ℕ) : Type 0 where
  pub by : Step
  pub listed : At (steps_of joining) number by
  pub there : led width height by (place_of width p) ≡ Some q

-- The steps of a joining lead from a pixel to each pixel that is joined to it, by one step each, and to no other.
pub record LawsOfSteps (width height joining p : ℕ) : Type 0 where
  pub inside : {number q : ℕ} → Leads width height joining p number q → q < width * height
  pub sound : {number q : ℕ} → Leads width height joining p number q → Joined width joining p q
  pub complete : {q : ℕ} → q < width * height → Joined width joining p q → (number : ℕ) × Leads width height joining p number q
  pub once : {n k q : ℕ} → Leads width height joining p n q → Leads width height joining p k q → n ≡ k
