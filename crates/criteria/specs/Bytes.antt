-- The three criteria on bytes: step, tone and turn. Assumes nothing.
use Rattle.std.specs.Prelude.{ℕ, ◌+◌, ◌-◌, ◌*◌, min, max, Bool, true, pos, ◌-ℤ◌, int_le, nat_le, nat_lt}
use Rattle.std.specs.Int.{int_min}
use Rattle.criteria.specs.Criteria.{Judgement}

-- the difference of two numbers in size: one of the two subtractions stops at 0
abbrev pub apart : ℕ → ℕ → ℕ
apart a b = (a - b) + (b - a)

-- step t: all bytes are admitted; near when they differ by at most t
abbrev pub by_step : ℕ → Judgement ℕ
by_step t = record { admits = λ v. true; near = λ c v. nat_le (apart c v) t }

-- 256 × (greater − lesser) is at most t × (256 − lesser)
abbrev pub tone_near : ℕ → ℕ → ℕ → Bool
tone_near t greater lesser = nat_le (256 * (greater - lesser)) (t * (256 - lesser))

-- tone t: all bytes are admitted, each taken as a grey tone
abbrev pub by_tone : ℕ → Judgement ℕ
by_tone t = record { admits = λ v. true; near = λ c v. tone_near t (max c v) (min c v) }

-- the lesser of d and 180 − d, which may be negative, is at most t
abbrev pub turn_near : ℕ → ℕ → Bool
turn_near t d = int_le (int_min (pos d) (pos 180 -ℤ pos d)) (pos t)

-- turn t: headings from 0 to 179 are admitted; 180 degrees apart is the same heading
abbrev pub by_turn : ℕ → Judgement ℕ
by_turn t = record { admits = λ v. nat_lt v 180; near = λ c v. turn_near t (apart c v) }
