-- The levels that a bench may have. Assumes nothing.
use Rattle.std.specs.Prelude.{pos, negsuc, ◌≤ℤ◌}
use Rattle.morphology.specs.declared.calls.Levels.{Levels}

-- The levels lie within −64 and 64, the lowest at or below the present one and the highest at or above it.
pub record Inside (l : Levels) : Type 0 where
  pub floor : negsuc 63 ≤ℤ l.lowest
  pub low : l.lowest ≤ℤ l.present
  pub high : l.present ≤ℤ l.highest
  pub ceiling : l.highest ≤ℤ pos 64
