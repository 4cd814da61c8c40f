-- Rows and columns of pixels, and the test for joined pixels. Assumes nothing.
use Rattle.std.proofs.Common.{◌≡◌, ℕ, ◌+◌, ◌/◌, ◌%◌, true, eqb, refl, inl, inr, arith}
use Rattle.std.proofs.lemmas.Nat.{div-mul-add, mod-mul-add}
use Rattle.std.proofs.lemmas.Bool.{eqb-true, eq-eqb, cases_lt, cases_eq, or_cases, or_left, or_right, and_parts, and_from}
use Rattle.morphology.specs.Tile.{row, column, Adjacent, Joined, in_row, in_column, by_corner, apart, joined}
use Rattle.morphology.specs.Theorems.{LawsOfTile}

-- row and column as code computes them
pub row_by_division : (width p : ℕ) → row width p ≡ p / width
unfolding row
row_by_division width p = refl

pub column_by_remainder : (width p : ℕ) → column width p ≡ p % width
unfolding column
column_by_remainder width p = refl

-- numbers that lie one apart
one_apart : (a b : ℕ) → apart a b ≡ 1 → Adjacent a b
one_apart a b e = elim (cases_lt a b) [ inl h ↦ inl (omega arith) | inr h ↦ inr (omega arith) ]

apart_one : (a b : ℕ) → Adjacent a b → apart a b ≡ 1
apart_one a b (inl e) = omega arith
apart_one a b (inr e) = omega arith

module _ (width joining x y : ℕ) where
  -- how many rows apart x and y lie
  rows : ℕ
  rows = apart (row width x) (row width y)

  -- how many columns apart x and y lie
  columns : ℕ
  columns = apart (column width x) (column width y)

  pub joined_sound : joined width joining x y ≡ true → Joined width joining x y
  unfolding rows columns
  joined_sound t = elim (or_cases (eqb (rows + columns) 1) _ t) [
    | inl side ↦
        let one : rows + columns ≡ 1 = eqb-true (rows + columns) 1 side in
        elim (cases_eq (row width x) (row width y)) [
          | inl same ↦ in_row same (one_apart (column width x) (column width y) (omega arith))
          | inr other ↦ in_column (omega arith) (one_apart (row width x) (row width y) (omega arith))
        ]
    | inr corner ↦
        let parts = and_parts (eqb joining 8) _ corner in
        let both = and_parts (eqb rows 1) (eqb columns 1) parts.1 in
        by_corner (eqb-true joining 8 parts.0)
        (one_apart (row width x) (row width y) (eqb-true rows 1 both.0))
        (one_apart (column width x) (column width y) (eqb-true columns 1 both.1))
  ]

  by_side : rows + columns ≡ 1 → joined width joining x y ≡ true
  unfolding rows columns
  by_side one = or_left (eqb (rows + columns) 1) _ (eq-eqb (rows + columns) 1 one)

  pub joined_complete : Joined width joining x y → joined width joining x y ≡ true
  unfolding rows columns
  joined_complete (in_row same next) = let one = apart_one (column width x) (column width y) next in by_side (omega arith)
  joined_complete (in_column same next) = let one = apart_one (row width x) (row width y) next in by_side (omega arith)
  joined_complete (by_corner eight next_row next-column) =
      or_right (eqb (rows + columns) 1) _
      (and_from (eqb joining 8) _ (eq-eqb joining 8 eight)
      (and_from (eqb rows 1) (eqb columns 1)
      (eq-eqb rows 1 (apart_one (row width x) (row width y) next_row))
      (eq-eqb columns 1 (apart_one (column width x) (column width y) next-column))))

pub tile : (width joining : ℕ) → LawsOfTile width joining
unfolding row column
tile width joining = record {
  row_is = λ r c inside. div-mul-add r width c inside;
  column_is = λ r c inside. mod-mul-add r width c inside;
  joined_decided = λ x y. (joined_sound width joining x y, joined_complete width joining x y);
}
