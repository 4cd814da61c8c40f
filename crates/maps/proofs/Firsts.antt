-- The search for the first value that is not admitted. Assumes nothing.
use Rattle.std.proofs.Common.{◌≡◌, ℕ, ◌<◌, ◌≤◌, Bool, true, false, cond, not, nat_lt, List, length, Some, None, Option, refl, sym, ap, ◌∙◌, subst, inl, inr, arith}
use Rattle.std.specs.List.{position_or_len}
use Rattle.std.proofs.lemmas.Bool.{both_ways, cases_order, not-true, not-false, ltb-true, ltb-false}
use Rattle.std.proofs.lemmas.List.Sums.{fails_before_first, passes_at_first}
use Rattle.morphology.proofs.Pictures.{at_some, at_bound}
use Rattle.morphology.proofs.Values.{at_is}
use Rattle.maps.specs.Admission.{FirstNot, all_admitted, first_at, first_not}

module _ {V : Type 0} (admits : V → Bool) where
  is_admitted : {u v : V} → u ≡ v → not (admits u) ≡ false → admits v ≡ true
  is_admitted {u} e f = sym (ap admits e) ∙ not-false (admits u) f

  is_refused : {u v : V} → u ≡ v → not (admits u) ≡ true → admits v ≡ false
  is_refused {u} e t = sym (ap admits e) ∙ not-true (admits u) t

  by_place : (values : List V) (inside : Bool) → nat_lt (position_or_len (λ v. not (admits v)) values) (length values) ≡ inside →
      FirstNot admits values (cond inside (Some (position_or_len (λ v. not (admits v)) values)) None)
  by_place values true e =
      let test : V → Bool = λ v. not (admits v) in
      let i = position_or_len test values in
      let within : i < length values = ltb-true _ _ e in
      let here = at_some values i within in
      first_at here.1 (is_refused (at_is here.0 here.1) (passes_at_first test values here.0 within))
      (λ k u early a. is_admitted (at_is u a) (fails_before_first test values k u early))
  by_place values false e =
      let test : V → Bool = λ v. not (admits v) in
      let past : length values ≤ position_or_len test values = ltb-false _ _ e in
      all_admitted (λ k u a. let bound = at_bound a in
      is_admitted (at_is u a) (fails_before_first test values k u (omega arith)))

  -- the search finds the first value that is not admitted
  pub first_not_is : (values : List V) → FirstNot admits values (first_not admits values)
  first_not_is values = by_place values _ refl

  pub first_not_at : {values : List V} {r : Option ℕ} → r ≡ first_not admits values → FirstNot admits values r
  first_not_at {values} e = subst (FirstNot admits values) (sym e) (first_not_is values)

  -- there is but one answer
  pub first_not_one : {values : List V} {r s : Option ℕ} → FirstNot admits values r → FirstNot admits values s → r ≡ s
  first_not_one (all_admitted p) (all_admitted q) = refl
  first_not_one (all_admitted p) (first_at {i = i} {v = v} a bad q) = absurd (both_ways (admits v) bad (p i v a))
  first_not_one (first_at {i = i} {v = v} a bad p) (all_admitted q) = absurd (both_ways (admits v) bad (q i v a))
  first_not_one (first_at {i = i} {v = v} a bad-a p) (first_at {i = k} {v = u} b bad-b q) = elim (cases_order i k) [
    | inl same ↦ ap (λ x. Some x) same
    | inr (inl less) ↦ absurd (both_ways (admits v) bad-a (q i v less a))
    | inr (inr more) ↦ absurd (both_ways (admits u) bad-b (p k u more b))
  ]

  pub first_not_only : {values : List V} {r : Option ℕ} → FirstNot admits values r → r ≡ first_not admits values
  first_not_only {values} f = first_not_one f (first_not_is values)
