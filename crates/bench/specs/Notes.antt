-- A note's eight bytes. Assumes nothing.
use Rattle.std.specs.Prelude.{ℕ, ◌/◌, ◌%◌, List, [], ◌∷◌, ℤ, pos, ◌+ℤ◌, unsigned_abs}
use Rattle.morphology.specs.declared.calls.Levels.{Levels}

-- a level as a byte
abbrev pub raised : ℤ → ℕ
raised z = unsigned_abs (z +ℤ pos 64)

-- 78 is N; then the three levels, the count in two bytes, low first, and two zeros
abbrev pub filed : Levels → ℕ → List ℕ
filed l n = 78 ∷ raised l.present ∷ raised l.lowest ∷ raised l.highest ∷ n % 256 ∷ n / 256 ∷ 0 ∷ 0 ∷ []
