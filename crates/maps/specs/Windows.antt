-- What a map shows. Assumes nothing.
use Rattle.std.specs.Prelude.{ℕ, ◌*◌, List, []}
use Rattle.maps.specs.declared.map.Map.{Map}
use Rattle.maps.specs.Joinings.{number_of}

-- one criterion value for each pixel in pixel order, with the tile's sides and the joining
pub record Window (V : Type 0) : Type 0 where
  pub values : List V
  pub width : ℕ
  pub height : ℕ
  pub joining : ℕ

-- the window on these values, width by height pixels
abbrev pub window : {V : Type 0} → List V → ℕ → ℕ → ℕ → Window V
window values width height joining = record { values = values; width = width; height = height; joining = joining }

-- the window that a map is
abbrev pub window_of : {V : Type 0} → Map V → Window V
window_of map = window map.values.now map.tile.width map.tile.height (number_of map.tile.joining)

-- the window of the empty map
abbrev pub empty_window : {V : Type 0} → Window V
empty_window = window [] 0 0 4

-- how many pixels a map has
abbrev pub pixels_of : {V : Type 0} → Map V → ℕ
pixels_of map = map.tile.width * map.tile.height
