-- What is left by a caller that opens a seated picture and then erodes it. Assumes nothing.
use Rattle.std.specs.Prelude.{ℕ, List, [], ◌∷◌}
use Rattle.morphology.specs.declared.calls.Operation.TheVariants.{Erode, Open}
use Rattle.bench.specs.declared.bench.Bench.{Bench}
use Rattle.operators.specs.declared.room.Room.{Room}
use Rattle.bench.specs.Settings.{Setting, calling, standing}
use Rattle.bench.specs.Calls.{Answer, Run}
use Rattle.bench.specs.Laws.{Seated}

-- The picture f was seated, and then opened and eroded by one size, each call in scratch of this room: that left the bench b and the picture p.
pub record Lowered {V S : Type 0} (s : Setting V S) (size : ℕ) (room : Room) (f : List S) (b : Bench) (p : List S) : Type 0 where
  pub start : Bench
  pub seated : Seated s f start
  pub answers : List Answer
  pub calls : Run s (record { call = calling Open size; room = room } ∷ record { call = calling Erode size; room = room } ∷ []) answers
      (standing start f) (standing b p)
