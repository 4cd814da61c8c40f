-- What the levels are after any list of calls. Assumes nothing.
use Rattle.std.proofs.Common.{◌≡◌, ℕ, ◌⊎◌, List, [], ◌∷◌, ℤ, pos, ◌+ℤ◌, ◌-ℤ◌, neg_ℤ, ◌≤ℤ◌, sym, refl, ap, subst, inl, inr, arith}
use lib.Signed.{lt_z}
use Rattle.std.specs.Int.{int_min}
use Rattle.std.proofs.lemmas.Int.{ints, clamps}
use Rattle.std.proofs.lemmas.List.Sums.{sum_by-cons}
use Rattle.std.proofs.lemmas.Bool.{cases_cond}
use Rattle.morphology.specs.declared.calls.Levels.{Levels}
use Rattle.morphology.specs.declared.calls.Operation.{Operation}
use Rattle.morphology.specs.declared.calls.Operation.TheVariants.{Dilate, Erode, Open, Close}
use Rattle.morphology.specs.Calls.{Call}
use Rattle.morphology.specs.Levels.{at_zero, touched, left_at, moved, levels_after, Touches, by_first, by_later, dilate_size, erode_size, dilated, eroded}
use Rattle.morphology.specs.Theorems.{LowestOf, LawsOfLevels}
use Rattle.morphology.proofs.Mirror.{mirrored, levels_mirror, touches_mirror, touches_back}

-- where an operation leaves a picture, by its size
left_by : (o : Operation) (p : ℕ) (z : ℤ) → left_at o (touched o p z) z ≡ (z +ℤ pos (dilate_size o p)) -ℤ pos (erode_size o p)
left_by Dilate p z = omega (arith, ints)
left_by Erode p z = omega (arith, ints)
left_by Open p z = omega (arith, ints)
left_by Close p z = omega (arith, ints)

pub present_after : (calls : List Call) (l : Levels) →
    (levels_after calls l).present ≡ (l.present +ℤ pos (dilated calls)) -ℤ pos (eroded calls)
present_after [] l = omega (arith, ints)
present_after (c ∷ calls) l =
    let up = sum_by-cons (λ d. dilate_size d.operation d.size) c calls in
    let down = sum_by-cons (λ d. erode_size d.operation d.size) c calls in
    omega (arith, ints, present_after calls (moved c l), left_by c.operation c.size l.present)

-- an operation leaves a picture at the level touched or where it was
left_cases : (o : Operation) (t z : ℤ) → (left_at o t z ≡ t) ⊎ (left_at o t z ≡ z)
left_cases Dilate t z = inl refl
left_cases Erode t z = inl refl
left_cases Open t z = inr refl
left_cases Close t z = inr refl

least_left : (a b : ℤ) → int_min a b ≤ℤ a
least_left a b = omega (arith, ints, clamps)

least_right : (a b : ℤ) → int_min a b ≤ℤ b
least_right a b = omega (arith, ints, clamps)

-- the lowest level never rises, and stays at or below the present one
pub lowest_falls : (calls : List Call) (l : Levels) → (levels_after calls l).lowest ≤ℤ l.lowest
lowest_falls [] l = omega (arith, ints)
lowest_falls (c ∷ calls) l =
    let h = lowest_falls calls (moved c l) in
    let k = least_left l.lowest (touched c.operation c.size l.present) in
    omega (arith, ints)

lowest_stays : (o : Operation) (t : ℤ) (l : Levels) → l.lowest ≤ℤ l.present → int_min l.lowest t ≤ℤ left_at o t l.present
lowest_stays o t l h = elim (left_cases o t l.present) [ inl e ↦ omega (arith, ints, clamps) | inr e ↦ omega (arith, ints, clamps) ]

pub lowest_low : (calls : List Call) (l : Levels) → l.lowest ≤ℤ l.present →
    (levels_after calls l).lowest ≤ℤ (levels_after calls l).present
lowest_low [] l h = h
lowest_low (c ∷ calls) l h = lowest_low calls (moved c l) (lowest_stays c.operation (touched c.operation c.size l.present) l h)

-- it is at or below each level touched
pub lowest_under : (calls : List Call) (l : Levels) {t : ℤ} → Touches l.present calls t → (levels_after calls l).lowest ≤ℤ t
lowest_under [] l h = elim h [ ]
lowest_under (c ∷ calls) l by_first =
    let h = lowest_falls calls (moved c l) in
    let k = least_right l.lowest (touched c.operation c.size l.present) in
    omega (arith, ints)
lowest_under (c ∷ calls) l (by_later h) = lowest_under calls (moved c l) h

-- it is the one at the start, or one of those touched
pub lowest_one : (calls : List Call) (l : Levels) →
    ((levels_after calls l).lowest ≡ l.lowest) ⊎ Touches l.present calls (levels_after calls l).lowest
lowest_one [] l = inl refl
lowest_one (c ∷ calls) l =
    let t = touched c.operation c.size l.present in
    elim (lowest_one calls (moved c l)) [
      | inl e ↦ elim (cases_cond (lt_z t l.lowest) t l.lowest _ e) [
        | inl here ↦ inr (subst (Touches l.present (c ∷ calls)) (sym here) by_first)
        | inr same ↦ inl same
      ]
      | inr h ↦ inr (by_later h)
    ]

lowest : (calls : List Call) → LowestOf calls (levels_after calls at_zero).lowest
lowest calls = record {
  under_start = lowest_falls calls at_zero;
  under_each = λ t h. lowest_under calls at_zero h;
  one_of = lowest_one calls at_zero;
}

-- the highest level is the lowest of the mirrored calls, with the order turned over
pub levels : (calls : List Call) → LawsOfLevels calls (levels_after calls at_zero)
levels calls =
    let l = levels_after calls at_zero in
    let m = levels_after (mirrored calls) at_zero in
    let other = sym (levels_mirror calls at_zero) in
    let turned : neg_ℤ l.highest ≡ m.lowest = ap (λ (k : Levels). k.lowest) other in
    let across : neg_ℤ l.present ≡ m.present = ap (λ (k : Levels). k.present) other in
    record {
      present_is = let e = present_after calls at_zero in omega (arith, ints);
      lowest_is = lowest calls;
      highest_is = record {
        over_start = let h = (lowest (mirrored calls)).under_start in omega (arith, ints);
        over_each = λ t h. let k = (lowest (mirrored calls)).under_each (neg_ℤ t) (touches_mirror h) in omega (arith, ints);
        one_of = elim (lowest (mirrored calls)).one_of [
          | inl e ↦ inl (omega (arith, ints))
          | inr h ↦ inr (touches_back calls (subst (Touches (pos 0) (mirrored calls)) (sym turned) h))
        ];
      };
      low = lowest_low calls at_zero (omega (arith, ints));
      high = let h = lowest_low (mirrored calls) at_zero (omega (arith, ints)) in omega (arith, ints);
    }
