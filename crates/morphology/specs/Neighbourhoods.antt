-- The neighbourhoods that a nearness gives the pixels of a tile. Assumes nothing.
use Rattle.std.specs.Prelude.{◌≡◌, ℕ, ◌*◌, ◌<◌, Bool, true}
use Rattle.morphology.specs.Tile.{Joined}

-- A tile with its joining, 4 or 8, and a nearness by pixel numbers.
pub record Ground : Type 0 where
  pub width : ℕ
  pub height : ℕ
  pub joining : ℕ
  -- near z y: the value at y is near the value at z as centre
  pub near : ℕ → ℕ → Bool

-- how many pixels the tile has: their numbers are those below
abbrev pub pixels : Ground → ℕ
pixels g = g.width * g.height

-- The weak neighbourhood of z: a chain of joined pixels leads from z to y, each near the value at z as centre.
pub data Weak (g : Ground) (z : ℕ) : ℕ → Type 0 where
  first : z < pixels g → g.near z z ≡ true → Weak g z z
  next : {x y : ℕ} → Weak g z x → Joined g.width g.joining x y → y < pixels g → g.near z y ≡ true → Weak g z y

-- The symmetric neighbourhood of x: the weak neighbourhood of some centre holds both x and y.
pub record Symmetric (g : Ground) (x y : ℕ) : Type 0 where
  pub centre : ℕ
  pub holds_x : Weak g centre x
  pub holds_y : Weak g centre y

-- each pixel is near itself
abbrev pub NearItself : Ground → Type 0
NearItself g = (x : ℕ) → x < pixels g → g.near x x ≡ true
