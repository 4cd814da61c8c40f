-- The steps of a joining lead to the joined pixels. Assumes nothing.
use Rattle.std.proofs.Common.{◌≡◌, ℕ, ◌+◌, ◌-◌, ◌*◌, ◌<◌, ◌≤◌, Bool, true, false, cond, eqb, ltb, take, Some, None, Option, sym, refl, ap, ◌∙◌, subst, ap₂, inl, inr, mul_comm, zero-mul, arith}
use Rattle.std.proofs.lemmas.Bool.{cases_eq, eqb-true, eq-eqb, lt-ltb, ltb-true, cond-true}
use Rattle.std.proofs.lemmas.Nat.{mul-add-lt, div_below, mod_below, div-add-mod'}
use Rattle.morphology.specs.Tile.{row, column, Adjacent, Joined, in_row, in_column, by_corner}
use Rattle.morphology.specs.Pictures.{At, here, later}
use Rattle.morphology.proofs.Pictures.{at_bound}
use Rattle.morphology.proofs.Tile.{tile}
use Rattle.neighbourhoods.proofs.Listing.{at_take}
use Rattle.neighbourhoods.specs.declared.steps.Shift.{Shift}
use Rattle.neighbourhoods.specs.declared.steps.Shift.TheVariants.{Back, Stay, On}
use Rattle.neighbourhoods.specs.declared.steps.Step.{Step}
use Rattle.neighbourhoods.specs.Steps.{shifted, by_shifts, all_steps, pixel_in, Leads, LawsOfSteps}

-- a shift leads from a to b
data Moved : Shift → ℕ → ℕ → Type 0 where
  back : {a b : ℕ} → a ≡ b + 1 → Moved Back a b
  stay : {a b : ℕ} → a ≡ b → Moved Stay a b
  on : {a b : ℕ} → b ≡ a + 1 → Moved On a b

-- a shift that does not stay
data Turning : Shift → Type 0 where
  turning_back : Turning Back
  turning_on : Turning On

-- a step along a row, along a column, or with joining 8 to a corner
data Kind (joining : ℕ) : Shift → Shift → Type 0 where
  across : {c : Shift} → Turning c → Kind joining Stay c
  down : {r : Shift} → Turning r → Kind joining r Stay
  corner : {r c : Shift} → joining ≡ 8 → Turning r → Turning c → Kind joining r c

-- shifts
some_by : (t : Bool) (x b : ℕ) → cond t (Some x) None ≡ Some b → (t ≡ true) × (x ≡ b)
some_by true x b e = (refl, cc)
some_by false x b e = absurd cc

module _ (side : ℕ) where
  moved : (s : Shift) (a b : ℕ) → shifted side s a ≡ Some b → Moved s a b
  moved Back a b e = let p = some_by (ltb 0 a) (a - 1) b e in let h = ltb-true 0 a p.0 in back (omega (arith, p.1))
  moved Stay a b e = stay (cc)
  moved On a b e = let p = some_by (ltb (a + 1) side) (a + 1) b e in on (sym p.1)

  moved_inside : (s : Shift) (a b : ℕ) → a < side → shifted side s a ≡ Some b → b < side
  moved_inside Back a b h e = let p = some_by (ltb 0 a) (a - 1) b e in omega (arith, p.1)
  moved_inside Stay a b h e = let p : a ≡ b = cc in omega arith
  moved_inside On a b h e =
      let p = some_by (ltb (a + 1) side) (a + 1) b e in
      let k = ltb-true (a + 1) side p.0 in
      omega (arith, p.1)

  leads_to : {s : Shift} {a b : ℕ} → Moved s a b → b < side → shifted side s a ≡ Some b
  leads_to {a = a} {b = b} (back e) h =
      cond-true (ltb 0 a) (Some (a - 1)) None (lt-ltb 0 a (omega arith)) ∙ ap (λ x. Some x) (omega arith)
  leads_to (stay e) h = ap (λ x. Some x) e
  leads_to {a = a} {b = b} (on e) h =
      cond-true (ltb (a + 1) side) (Some (a + 1)) None (lt-ltb (a + 1) side (omega arith)) ∙ ap (λ x. Some x) (sym e)

one_shift : {s t : Shift} {a b : ℕ} → Moved s a b → Moved t a b → s ≡ t
one_shift (back e) (back f) = refl
one_shift (back e) (stay f) = absurd (omega arith)
one_shift (back e) (on f) = absurd (omega arith)
one_shift (stay e) (back f) = absurd (omega arith)
one_shift (stay e) (stay f) = refl
one_shift (stay e) (on f) = absurd (omega arith)
one_shift (on e) (back f) = absurd (omega arith)
one_shift (on e) (stay f) = absurd (omega arith)
one_shift (on e) (on f) = refl

adjacent : {s : Shift} {a b : ℕ} → Turning s → Moved s a b → Adjacent a b
adjacent turning_back (back e) = inr e
adjacent turning_on (on e) = inl e

same : {a b : ℕ} → Moved Stay a b → a ≡ b
same (stay e) = e

-- the shift between adjacent rows
record Turn (a b : ℕ) : Type 0 where
  by : Shift
  turning : Turning by
  moves : Moved by a b

turn : {a b : ℕ} → Adjacent a b → Turn a b
turn (inl e) = record { by = On; turning = turning_on; moves = on e }
turn (inr e) = record { by = Back; turning = turning_back; moves = back e }

-- the number of a step in the list
number : Shift → Shift → ℕ
number Back Stay = 0
number On Stay = 1
number Stay Back = 2
number Stay On = 3
number Back Back = 4
number Back On = 5
number On Back = 6
number On On = 7
number Stay Stay = 8

-- the list of steps
module _ (joining : ℕ) where
  listed_by : {r c : Shift} (b : Bool) → eqb joining 8 ≡ b → Kind joining r c → At (cond b all_steps (take 4 all_steps)) (number r c) (by_shifts r c)
  unfolding number
  listed_by true e (across turning_back) = later (later here)
  listed_by true e (across turning_on) = later (later (later here))
  listed_by true e (down turning_back) = here
  listed_by true e (down turning_on) = later here
  listed_by true e (corner eight turning_back turning_back) = later (later (later (later here)))
  listed_by true e (corner eight turning_back turning_on) = later (later (later (later (later here))))
  listed_by true e (corner eight turning_on turning_back) = later (later (later (later (later (later here)))))
  listed_by true e (corner eight turning_on turning_on) = later (later (later (later (later (later (later here))))))
  listed_by false e (across turning_back) = later (later here)
  listed_by false e (across turning_on) = later (later (later here))
  listed_by false e (down turning_back) = here
  listed_by false e (down turning_on) = later here
  listed_by false e (corner eight r c) = let z : ◌≡◌ {A = Bool} true false = sym (eq-eqb joining 8 eight) ∙ e in absurd (differ z)
    where
      differ : true ≡ false → ⊥
      differ z = let k : ◌≡◌ {A = ℕ} 0 1 = cc in omega arith

  -- the steps of joining 4 are the first four of all
  among_all : {n : ℕ} {s : Step} (b : Bool) → eqb joining 8 ≡ b → At (cond b all_steps (take 4 all_steps)) n s → At all_steps n s × (4 ≤ n → joining ≡ 8)
  among_all true e a = (a, λ late. eqb-true joining 8 e)
  among_all false e a = (at_take 4 all_steps a, λ late. let early = at_bound a in absurd (omega arith))

  kind : {n : ℕ} {s : Step} → At all_steps n s → (4 ≤ n → joining ≡ 8) → Kind joining s.rows s.columns
  kind here e = down turning_back
  kind (later here) e = down turning_on
  kind (later (later here)) e = across turning_back
  kind (later (later (later here))) e = across turning_on
  kind (later (later (later (later here)))) e = corner (e (omega arith)) turning_back turning_back
  kind (later (later (later (later (later here))))) e = corner (e (omega arith)) turning_back turning_on
  kind (later (later (later (later (later (later here)))))) e = corner (e (omega arith)) turning_on turning_back
  kind (later (later (later (later (later (later (later here))))))) e = corner (e (omega arith)) turning_on turning_on
  kind (later (later (later (later (later (later (later (later a)))))))) e = elim a [ ]

  number_is : {n : ℕ} {s : Step} → At all_steps n s → n ≡ number s.rows s.columns
  unfolding number
  number_is here = refl
  number_is (later here) = refl
  number_is (later (later here)) = refl
  number_is (later (later (later here))) = refl
  number_is (later (later (later (later here)))) = refl
  number_is (later (later (later (later (later here))))) = refl
  number_is (later (later (later (later (later (later here)))))) = refl
  number_is (later (later (later (later (later (later (later here))))))) = refl
  number_is (later (later (later (later (later (later (later (later a)))))))) = elim a [ ]

-- where pixels lie
module _ (w h q : ℕ) (in_tile : q < w * h) where
  pub some_width : 0 < w
  some_width = elim (cases_eq w 0) [
    | inl e ↦ let none : w * h ≡ 0 = ap (λ x. x * h) e ∙ zero-mul h in absurd (omega arith)
    | inr ne ↦ omega arith
  ]

  pub row_inside : row w q < h
  unfolding row
  row_inside = div_below q w h some_width (omega (arith, mul_comm w h))

  pub column_inside : column w q < w
  unfolding column
  column_inside = mod_below q w some_width

  pixel_is : row w q * w + column w q ≡ q
  unfolding row column
  pixel_is = div-add-mod' q w

-- a row and a column that are both there, with their pixel
record Both (w : ℕ) (row-there column-there : Option ℕ) (q : ℕ) : Type 0 where
  r : ℕ
  c : ℕ
  row_is : row-there ≡ Some r
  column_is : column-there ≡ Some c
  pixel : r * w + c ≡ q

both : (w : ℕ) (r c : Option ℕ) (q : ℕ) → pixel_in w r c ≡ Some q → Both w r c q
both w (Some r) (Some c) q e = record { r = r; c = c; row_is = refl; column_is = refl; pixel = cc }
both w (Some r) None q e = absurd cc
both w None (Some c) q e = absurd cc
both w None None q e = absurd cc

module _ (w h joining p : ℕ) (in_tile : p < w * h) where
  -- what a step that leads from p to q does to row and column
  record Through (s : Step) (q : ℕ) : Type 0 where
    inside : q < w * h
    rows : Moved s.rows (row w p) (row w q)
    columns : Moved s.columns (column w p) (column w q)

  through : {number q : ℕ} (l : Leads w h joining p number q) → Through l.by q
  through {q = q} l =
      let s = l.by in
      let b = both w (shifted h s.rows (row w p)) (shifted w s.columns (column w p)) q l.there in
      let r-in = moved_inside h s.rows (row w p) b.r (row_inside w h p in_tile) b.row_is in
      let c-in = moved_inside w s.columns (column w p) b.c (column_inside w h p in_tile) b.column_is in
      let row-q : b.r ≡ row w q = sym ((tile w joining).row_is b.r b.c c-in) ∙ ap (row w) b.pixel in
      let column-q : b.c ≡ column w q = sym ((tile w joining).column_is b.r b.c c-in) ∙ ap (column w) b.pixel in
      record {
        inside = subst (λ x. x < w * h) b.pixel (mul-add-lt b.r w b.c h r-in c-in);
        rows = subst (Moved s.rows (row w p)) row-q (moved h s.rows (row w p) b.r b.row_is);
        columns = subst (Moved s.columns (column w p)) column-q (moved w s.columns (column w p) b.c b.column_is);
      }

  joined_by : {r c : Shift} {q : ℕ} → Kind joining r c → Moved r (row w p) (row w q) → Moved c (column w p) (column w q) → Joined w joining p q
  joined_by (across t) m n = in_row (same m) (adjacent t n)
  joined_by (down t) m n = in_column (same n) (adjacent t m)
  joined_by (corner eight s t) m n = by_corner eight (adjacent s m) (adjacent t n)

  -- the step with these shifts
  leads : {r c : Shift} {q : ℕ} → q < w * h → Kind joining r c → Moved r (row w p) (row w q) → Moved c (column w p) (column w q) →
      Leads w h joining p (number r c) q
  leads {r} {c} {q} q-in k m n = record {
    by = by_shifts r c;
    listed = listed_by joining (eqb joining 8) refl k;
    there =
        ap₂ (pixel_in w) (leads_to h m (row_inside w h q q-in)) (leads_to w n (column_inside w h q q-in))
        ∙ ap (λ x. Some x) (pixel_is w h q q-in);
  }

  reached : {q : ℕ} → q < w * h → Joined w joining p q → (number : ℕ) × Leads w h joining p number q
  reached q-in (in_row e a) = let t = turn a in (_, leads q-in (across t.turning) (stay e) t.moves)
  reached q-in (in_column e a) = let t = turn a in (_, leads q-in (down t.turning) t.moves (stay e))
  reached q-in (by_corner eight a b) =
      let s = turn a in
      let t = turn b in
      (_, leads q-in (corner eight s.turning t.turning) s.moves t.moves)

  pub steps_lead : LawsOfSteps w h joining p
  steps_lead = record {
    inside = λ l. (through l).inside;
    sound = λ l.
        let t = through l in
        let a = among_all joining (eqb joining 8) refl l.listed in
        joined_by (kind joining a.0 a.1) t.rows t.columns;
    complete = reached;
    once = λ l m.
        let s = through l in
        let t = through m in
        let a = among_all joining (eqb joining 8) refl l.listed in
        let b = among_all joining (eqb joining 8) refl m.listed in
        number_is joining a.0 ∙ ap₂ number (one_shift s.rows t.rows) (one_shift s.columns t.columns) ∙ sym (number_is joining b.0);
  }
