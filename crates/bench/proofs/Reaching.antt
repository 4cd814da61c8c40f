-- Levels that a call moves stay inside −64 to 64, and in order. Assumes nothing.
use Rattle.std.proofs.Common.{◌≡◌, ◌⊎◌, ℤ, pos, negsuc, ◌≤ℤ◌, refl, inl, inr, arith}
use Rattle.std.proofs.lemmas.Int.{ints, clamps}
use Rattle.morphology.specs.declared.calls.Levels.{Levels}
use Rattle.morphology.specs.declared.calls.Operation.{Operation}
use Rattle.morphology.specs.declared.calls.Operation.TheVariants.{Dilate, Erode, Open, Close}
use Rattle.morphology.specs.Levels.{left_at, reached}
use Rattle.bench.specs.Bounds.{Inside}

-- at the level that it touched, or where it was
either : (o : Operation) (t z : ℤ) → (left_at o t z ≡ t) ⊎ (left_at o t z ≡ z)
either Dilate t z = inl refl
either Erode t z = inl refl
either Open t z = inr refl
either Close t z = inr refl

pub stays_inside : (o : Operation) (t : ℤ) (l : Levels) → Inside l → negsuc 63 ≤ℤ t → t ≤ℤ pos 64 → Inside (reached o t l)
stays_inside o t l i above under =
    let floor = i.floor in
    let low = i.low in
    let high = i.high in
    let ceiling = i.ceiling in
    record {
      floor = omega (arith, ints, clamps);
      low = elim (either o t l.present) [ inl e ↦ omega (arith, ints, clamps) | inr e ↦ omega (arith, ints, clamps) ];
      high = elim (either o t l.present) [ inl e ↦ omega (arith, ints, clamps) | inr e ↦ omega (arith, ints, clamps) ];
      ceiling = omega (arith, ints, clamps);
    }
