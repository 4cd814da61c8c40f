-- Rows that are put together one at a time. Assumes nothing.
use Rattle.std.proofs.Common.{◌≡◌, ℕ, zero, suc, ◌+◌, ◌-◌, ◌*◌, ◌/◌, ◌<◌, ◌≤◌, List, ◌++◌, length, take, drop, sym, refl, ap, ◌∙◌, append_assoc, add-one, arith, length-drop, length-append}
use Rattle.std.proofs.Math.Nat.{zero-mul, mul-div_cancel}
use Rattle.std.proofs.lemmas.Nat.{div-mul-add}
use lib.Seq.{drop-drop, take-append_seam, drop-append_seam}
use Rattle.lines.specs.Lines.{newline, row_text, rows_text}

rows_text-suc : (w h : ℕ) (vs : List ℕ) → rows_text w (suc h) vs ≡ rows_text w h vs ++ (row_text (take w (drop (h * w) vs)) ++ newline)
rows_text-suc w zero vs = rw zero-mul refl
rows_text-suc w (suc h) vs =
    let far : w + h * w ≡ suc h * w = omega arith in
    let below : drop (h * w) (drop w vs) ≡ drop (suc h * w) vs = drop-drop (h * w) w vs ∙ ap (λ n. drop n vs) far in
    rw (rows_text-suc w h (drop w vs), below) (simp append_assoc)

-- one row more, which is what comes next
pub rows_text-more : (w k : ℕ) (vs rest row below : List ℕ) → k * w ≤ length vs → rest ≡ drop (k * w) vs → rest ≡ row ++ below → length row ≡ w →
    (rows_text w k vs ++ (row_text row ++ newline) ≡ rows_text w (k + 1) vs) × (below ≡ drop ((k + 1) * w) vs) × ((k + 1) * w ≤ length vs)
rows_text-more w k vs rest row below within here cut wide =
    let front : take w rest ≡ row = ap (λ n. take n rest) (sym wide) ∙ ap (take (length row)) cut ∙ take-append_seam row below in
    let back : drop w rest ≡ below = ap (λ n. drop n rest) (sym wide) ∙ ap (drop (length row)) cut ∙ drop-append_seam row below in
    let far : k * w + w ≡ (k + 1) * w = omega arith in
    let left : length rest ≡ length vs - k * w = ap length here ∙ length-drop (k * w) vs in
    let both : length rest ≡ length row + length below = ap length cut ∙ length-append row below in (
      ap (λ r. rows_text w k vs ++ (row_text r ++ newline)) (sym front ∙ ap (take w) here) ∙ rw (add-one, rows_text-suc w k vs) refl,
      sym back ∙ ap (drop w) here ∙ drop-drop w (k * w) vs ∙ ap (λ n. drop n vs) far,
      omega (arith, far, left, both, wide, within),
    )

-- no whole row is left to come only after the last
pub rows_done : (w k : ℕ) (vs rest : List ℕ) → k * w ≤ length vs → rest ≡ drop (k * w) vs → length rest < w → length vs / w ≡ k
rows_done w k vs rest within here short =
    let left : length rest ≡ length vs - k * w = ap length here ∙ length-drop (k * w) vs in
    let whole : length vs ≡ k * w + length rest = omega (arith, left, within) in
    ap (λ n. n / w) whole ∙ div-mul-add k w (length rest) short

-- the rows of a picture of this height
pub all_rows : (w h : ℕ) (vs : List ℕ) → 0 < w → length vs ≡ w * h → rows_text w (length vs / w) vs ≡ rows_text w h vs
all_rows w h vs wide full =
    let area : length vs ≡ h * w = omega (arith, full) in
    ap (λ n. rows_text w n vs) (ap (λ n. n / w) area ∙ mul-div_cancel h wide)
