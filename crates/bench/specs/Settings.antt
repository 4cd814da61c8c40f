-- What the calls on a bench are handed, what they find, and what they are asked. Assumes nothing.
use Rattle.std.specs.Prelude.{ℕ, List}
use Rattle.scales.specs.Scales.{Grading}
use Rattle.criteria.specs.Criteria.{Judgement}
use Rattle.maps.specs.declared.map.Map.{Map}
use Rattle.maps.specs.Grounds.{ground}
use Rattle.morphology.specs.declared.calls.Operation.{Operation}
use Rattle.morphology.specs.Neighbourhoods.{Ground}
use Rattle.morphology.specs.Calls.{Call}
use Rattle.bench.specs.declared.bench.Bench.{Bench}
use Rattle.operators.specs.declared.room.Room.{Room}
use Rattle.operators.specs.Operations.{room_of}

-- what every call of a list is handed: the scale of the picture's values, the criterion's judgement and the map
pub record Setting (V S : Type 0) : Type 1 where
  pub scale : Grading S
  pub judgement : Judgement V
  pub map : Map V

-- a setting of these
abbrev pub setting : {V S : Type 0} → Grading S → Judgement V → Map V → Setting V S
setting scale judgement map = record { scale = scale; judgement = judgement; map = map }

-- the tile of the map with the nearness that the judgement gives its pixels
abbrev pub ground_of : {V S : Type 0} → Setting V S → Ground
ground_of s = ground s.judgement s.map

-- a bench, and the picture on it
pub record Standing (S : Type 0) : Type 0 where
  pub bench : Bench
  pub picture : List S

-- the standing of these
abbrev pub standing : {S : Type 0} → Bench → List S → Standing S
standing bench picture = record { bench = bench; picture = picture }

-- the call of this operation and size
abbrev pub calling : Operation → ℕ → Call
calling operation size = record { operation = operation; size = size }

-- what a call is asked to do, and how many entries of scratch it is handed
pub record Asked : Type 0 where
  pub call : Call
  pub room : Room

-- a call of this operation and size, handed this scratch
abbrev pub asking : {S : Type 0} → Operation → ℕ → List ℕ → List ℕ → List S → Asked
asking operation size marks queue spare = record { call = calling operation size; room = room_of marks queue spare }
