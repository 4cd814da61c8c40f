-- Tests that compute the neighbourhoods. Assumes nothing.
use Rattle.std.specs.Prelude.{ℕ, zero, suc, Bool, false, ◌&&◌, ◌||◌, List, [], ◌∷◌, ◌==◌, slice_index_or}
use Rattle.morphology.specs.Tile.{joined}
use Rattle.morphology.specs.Neighbourhoods.{Ground, pixels}

-- the list of f at 0, 1, .., n − 1
abbrev pub tabulate : {A : Type 0} → ℕ → (ℕ → A) → List A
tabulate zero f = []
tabulate (suc n) f = f zero ∷ tabulate n (λ i. f (suc i))

-- the table of f with n rows and n columns
abbrev pub square : ℕ → (ℕ → ℕ → Bool) → List (List Bool)
square n f = tabulate n (λ x. tabulate n (f x))

-- the entry of a table in row x and column y, and false outside it
abbrev pub look : List (List Bool) → ℕ → ℕ → Bool
look table x y = slice_index_or (slice_index_or table x []) y false

-- the test whether some i below n passes f
abbrev pub some_below : ℕ → (ℕ → Bool) → Bool
some_below zero f = false
some_below (suc n) f = f n || some_below n f

-- the test for one step of a chain whose pixels are near the value at z
abbrev pub one_step : Ground → ℕ → ℕ → ℕ → Bool
one_step g z x y = joined g.width g.joining x y && g.near z y

-- Warshall's table: row x has true at y where a chain near z leads from x to y by inner pixels below k alone
unfoldable pub ways : Ground → ℕ → ℕ → List (List Bool)
ways g z zero = square (pixels g) (λ x y. (x == y) || one_step g z x y)
ways g z (suc k) = let m = ways g z k in square (pixels g) (λ x y. look m x y || (look m x k && look m k y))

-- the table whose row z is the weak neighbourhood of z
unfoldable pub weak_table : Ground → List (List Bool)
weak_table g = tabulate (pixels g) (λ z. let m = ways g z (pixels g) in tabulate (pixels g) (λ y. g.near z z && look m z y))

-- the table whose row x is the symmetric neighbourhood of x
unfoldable pub symmetric_table : Ground → List (List Bool)
symmetric_table g = let m = weak_table g in square (pixels g) (λ x y. some_below (pixels g) (λ z. look m z x && look m z y))

-- the test whether y is in the weak neighbourhood of z
unfoldable pub weak : Ground → ℕ → ℕ → Bool
weak g = let m = weak_table g in look m

-- the test whether y is in the symmetric neighbourhood of x
unfoldable pub symmetric : Ground → ℕ → ℕ → Bool
symmetric g = let m = symmetric_table g in look m
