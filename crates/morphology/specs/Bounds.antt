-- The join and the meet of many values, and the order turned over. Assumes nothing.
use Rattle.scales.specs.Scales.{Grading}

-- the scale with its order turned over: join and meet change places, and so do lowest and highest
abbrev pub turned : {V : Type 0} → Grading V → Grading V
turned scale = record { below = λ a b. scale.below b a; join = scale.meet; meet = scale.join; lowest = scale.highest; highest = scale.lowest }

-- b is the join of the values that Has holds of: the least value at or above each of them
pub record JoinOf {V : Type 0} (scale : Grading V) (Has : V → Type 0) (b : V) : Type 0 where
  pub above : (u : V) → Has u → scale.below u b
  pub least : (c : V) → ((u : V) → Has u → scale.below u c) → scale.below b c

-- b is the meet of the values that Has holds of: their join with the order turned over
abbrev pub MeetOf : {V : Type 0} → Grading V → (V → Type 0) → V → Type 0
MeetOf scale Has b = JoinOf (turned scale) Has b
