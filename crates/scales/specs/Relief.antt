-- Relief: the numbers −32,768 to 32,767, by size. Assumes nothing.
use Rattle.std.specs.Prelude.{ℕ, cond, ℤ, pos, negsuc, ◌-ℤ◌, ◌≤ℤ◌, int_lt, unsigned_abs}
use Rattle.std.specs.Int.{int_max, int_min}
use Rattle.scales.specs.Scales.{Grading}

-- negsuc 32767 is −32,768
abbrev pub relief : Grading ℤ
relief = record { below = ◌≤ℤ◌; join = int_max; meet = int_min; lowest = negsuc 32767; highest = pos 32767 }

-- a − b where a is above b, else 0, reckoned in whole numbers
abbrev pub relief_gap : ℤ → ℤ → ℕ
relief_gap a b = cond (int_lt b a) (unsigned_abs (a -ℤ b)) 0
