-- How marks lie in bytes: one byte for each pixel, and 0 where the pixel is free. Assumes nothing.
use Rattle.std.specs.Prelude.{◌≡◌, ℕ, ◌<◌, Bool, true, List, ◌==◌, slice_index, slice_set}

-- how many pixels this many bytes serve
unfoldable pub served : ℕ → ℕ
served bytes = bytes

-- is the pixel free of a mark?
unfoldable pub free : List ℕ → ℕ → Bool
free marks p = slice_index marks p == 0

-- the marks with this pixel marked
unfoldable pub marked : List ℕ → ℕ → List ℕ
marked marks p = slice_set marks p 1

-- the marks with this pixel freed
unfoldable pub unmarked : List ℕ → ℕ → List ℕ
unmarked marks p = slice_set marks p 0

-- the first n pixels are free
abbrev pub Clear : ℕ → List ℕ → Type 0
Clear n marks = (p : ℕ) → p < n → free marks p ≡ true
