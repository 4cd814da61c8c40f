-- Which tiles there are. Assumes nothing.
use Rattle.std.specs.Prelude.{ℕ, ◌*◌, Bool, ◌&&◌, ◌||◌, List, [], ◌∷◌, ◌++◌, Result, ◌==◌, nat_le}
use Rattle.criteria.specs.declared.fault.MapFault.{MapFault}
use Rattle.criteria.specs.declared.fault.MapFault.TheVariants as fault
use Rattle.criteria.specs.declared.fault.Counted.TheVariants as counted
use Rattle.maps.specs.Checks.{Check, first_fault, answered}

-- a side has 1 to 255 pixels
abbrev pub is_side : ℕ → Bool
is_side n = nat_le 1 n && nat_le n 255

-- a tile of these sides has at most 4,096 pixels
abbrev pub is_tile : ℕ → ℕ → Bool
is_tile w h = is_side w && (is_side h && nat_le (w * h) 4096)

-- pixels are joined by 4, the shared sides, or by 8, the shared corners too
abbrev pub is_joining : ℕ → Bool
is_joining j = j == 4 || j == 8

-- the checks of a tile and its joining
abbrev pub tile_checks : ℕ → ℕ → ℕ → List (Check MapFault)
tile_checks w h j = record { holds = is_tile w h; fault = fault.Tile } ∷ record { holds = is_joining j; fault = fault.Joining j } ∷ []

-- how many pixels a tile has, or what is wrong with it
abbrev pub tile_answer : ℕ → ℕ → ℕ → Result ℕ MapFault
tile_answer w h j = answered (first_fault (tile_checks w h j)) (w * h)

-- the checks of a map of this many values
abbrev pub map_checks : ℕ → ℕ → ℕ → ℕ → List (Check MapFault)
map_checks w h j count = tile_checks w h j ++ record { holds = (count == w * h); fault = fault.Misfit counted.Values } ∷ []

-- the empty map is 0 by 0 with joining 4
abbrev pub is_empty : ℕ → ℕ → ℕ → Bool
is_empty w h j = w == 0 && (h == 0 && j == 4)

-- width, height and joining of a map are those of a tile, or the empty map's
abbrev pub is_map : ℕ → ℕ → ℕ → Bool
is_map w h j = (is_tile w h && is_joining j) || is_empty w h j
