-- Grey: the numbers 0 to 255, by size. Assumes nothing.
use Rattle.std.specs.Prelude.{ℕ, ◌-◌, ◌≤◌, min, max}
use Rattle.scales.specs.Scales.{Grading}

abbrev pub grey : Grading ℕ
grey = record { below = ◌≤◌; join = max; meet = min; lowest = 0; highest = 255 }

-- a − b where a is above b, else 0: the subtraction stops at 0
abbrev pub grey_gap : ℕ → ℕ → ℕ
grey_gap a b = a - b
