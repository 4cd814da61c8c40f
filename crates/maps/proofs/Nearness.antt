-- Nearness by pixel numbers, against the values that code reads. Assumes nothing.
use Rattle.std.proofs.Common.{◌≡◌, ℕ, ◌<◌, Bool, true, List, length, None, sym, refl, ◌∙◌, subst}
use Rattle.criteria.specs.Criteria.{Judgement, Itself}
use Rattle.morphology.specs.Neighbourhoods.{NearItself}
use Rattle.morphology.specs.Pictures.{At, here, later}
use Rattle.morphology.proofs.Pictures.{at_some}
use Rattle.maps.specs.declared.map.Map.{Map}
use Rattle.maps.specs.Grounds.{value_passes, near_at, ground}
use Rattle.maps.specs.Admission.{FirstNot, all_admitted, first_not, inadmissible}
use Rattle.maps.proofs.Firsts.{first_not_is}

module _ {V : Type 0} where
  pub passes_at : {values : List V} {i : ℕ} {v : V} (test : V → Bool) → At values i v → value_passes values i test ≡ test v
  passes_at test here = refl
  passes_at test (later a) = passes_at test a

  -- with the centre's value in hand
  pub near_by : (j : Judgement V) {values : List V} {z : ℕ} {centre : V} (y : ℕ) → At values z centre →
      near_at j values z y ≡ value_passes values y (j.near centre)
  unfolding near_at
  near_by j {values} y a = passes_at (λ centre. value_passes values y (j.near centre)) a

  pub near_is : (j : Judgement V) {values : List V} {z y : ℕ} {centre v : V} → At values z centre → At values y v →
      near_at j values z y ≡ j.near centre v
  near_is j {y = y} {centre = centre} a b = near_by j y a ∙ passes_at (j.near centre) b

  all_from : (admits : V → Bool) (values : List V) → first_not admits values ≡ None → (i : ℕ) (v : V) → At values i v → admits v ≡ true
  all_from admits values none = every (subst (FirstNot admits values) none (first_not_is admits values))
    where
      every : FirstNot admits values None → (i : ℕ) (v : V) → At values i v → admits v ≡ true
      every (all_admitted all) = all

  -- where all values are admitted, each pixel is near itself
  pub near_itself : (j : Judgement V) → Itself j → (map : Map V) → inadmissible j map ≡ None → NearItself (ground j map)
  near_itself j law map none x inside =
      let within : x < length map.values.now = subst (λ n. x < n) (sym map.full) inside in
      let at_x = at_some map.values.now x within in
      near_is j at_x.1 at_x.1 ∙ law at_x.0 (all_from j.admits map.values.now none x at_x.0 at_x.1)
