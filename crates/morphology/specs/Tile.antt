-- The pixels of a tile, numbered row by row, and which of them are joined. Assumes nothing.
use Rattle.std.specs.Prelude.{◌≡◌, ℕ, ◌+◌, ◌-◌, ◌/◌, ◌%◌, Bool, ◌&&◌, ◌||◌, ◌⊎◌, ◌==◌}

-- the row of pixel p in a tile of this width
unfoldable pub row : ℕ → ℕ → ℕ
row width p = p / width

-- the column of pixel p in a tile of this width
unfoldable pub column : ℕ → ℕ → ℕ
column width p = p % width

-- one of the two numbers follows the other
abbrev pub Adjacent : ℕ → ℕ → Type 0
Adjacent a b = (b ≡ a + 1) ⊎ (a ≡ b + 1)

-- Pixels x and y are joined: they share a side, in a row or in a column, or with joining 8 a corner.
pub data Joined (width joining x y : ℕ) : Type 0 where
  in_row : row width x ≡ row width y → Adjacent (column width x) (column width y) → Joined width joining x y
  in_column : column width x ≡ column width y → Adjacent (row width x) (row width y) → Joined width joining x y
  by_corner : joining ≡ 8 → Adjacent (row width x) (row width y) → Adjacent (column width x) (column width y) → Joined width joining x y

-- how far apart two rows lie, or two columns
abbrev pub apart : ℕ → ℕ → ℕ
apart a b = (a - b) + (b - a)

-- the test whether pixels that lie this many rows and columns apart are joined
abbrev pub adjoining : ℕ → ℕ → ℕ → Bool
adjoining joining rows columns = rows + columns == 1 || (joining == 8 && (rows == 1 && columns == 1))

-- the test whether pixels x and y are joined, by the width and the joining
abbrev pub joined : ℕ → ℕ → ℕ → ℕ → Bool
joined width joining x y = adjoining joining (apart (row width x) (row width y)) (apart (column width x) (column width y))
