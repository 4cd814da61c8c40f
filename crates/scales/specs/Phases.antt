-- Phase sets: 32 marks as the bits of one number. Assumes nothing.
use Rattle.std.specs.Prelude.{◌≡◌, ℕ, ◌-◌, ◌/◌, ◌%◌, ◌^◌, ◌≤◌, min, max, bit_and, bit_or, count_ones}
use Rattle.scales.specs.Scales.{Grading}

-- mark k of a set: 1 where it is in the set, else 0
abbrev pub mark : ℕ → ℕ → ℕ
mark a k = a / 2 ^ k % 2

-- each mark of a is in b
pub record Within (a b : ℕ) : Type 0 where
  pub marks : (k : ℕ) → mark a k ≤ mark b k

-- join is union, meet intersection, and highest has all 32 marks
abbrev pub phases : Grading ℕ
phases = record { below = Within; join = bit_or; meet = bit_and; lowest = 0; highest = 4294967295 }

-- the marks of a that are not in b: what is left of a once the shared marks are taken away
abbrev pub without : ℕ → ℕ → ℕ
without a b = a - bit_and a b

-- how many marks of a are not in b
abbrev pub phase_gap : ℕ → ℕ → ℕ
phase_gap a b = count_ones (without a b)

-- Union, intersection and difference of sets, mark by mark.
pub record Marked (a b k : ℕ) : Type 0 where
  pub union : mark (bit_or a b) k ≡ max (mark a k) (mark b k)
  pub intersection : mark (bit_and a b) k ≡ min (mark a k) (mark b k)
  pub difference : mark (without a b) k ≡ mark a k - mark b k
