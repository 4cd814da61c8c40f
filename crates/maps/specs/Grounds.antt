-- What a map and a criterion's judgement make together. Assumes nothing.
use Rattle.std.specs.Prelude.{ℕ, zero, suc, Bool, false, List, [], ◌∷◌}
use Rattle.criteria.specs.Criteria.{Judgement}
use Rattle.morphology.specs.Neighbourhoods.{Ground}
use Rattle.maps.specs.declared.map.Map.{Map}
use Rattle.maps.specs.Windows.{Window, window_of}

-- the test of the value at pixel i; past the last value none passes
abbrev pub value_passes : {V : Type 0} → List V → ℕ → (V → Bool) → Bool
value_passes [] i test = false
value_passes (v ∷ vs) zero test = test v
value_passes (v ∷ vs) (suc i) test = value_passes vs i test

-- the test whether the value at pixel y is near the value at pixel z as centre
unfoldable pub near_at : {V : Type 0} → Judgement V → List V → ℕ → ℕ → Bool
near_at j values z y = value_passes values z (λ centre. value_passes values y (j.near centre))

-- the tile of a window with the nearness that a judgement gives its pixels
abbrev pub ground_of : {V : Type 0} → Judgement V → Window V → Ground
ground_of j w = record { width = w.width; height = w.height; joining = w.joining; near = near_at j w.values }

-- the same of a map
abbrev pub ground : {V : Type 0} → Judgement V → Map V → Ground
ground j map = ground_of j (window_of map)
