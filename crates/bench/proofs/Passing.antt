-- What an answer says of the checks that led to it. Assumes nothing.
use Rattle.std.proofs.Common.{◌≡◌, Bool, true, false, cond, List, [], ◌∷◌, ◌++◌, Some, None, Ok, Err, Option, sym, refl, ap, ◌∙◌}
use Rattle.maps.specs.Checks.{Check, first_fault, answered}
use Rattle.maps.proofs.Answering.{no_fault}

pub the_value : {V F : Type 0} (x : Option F) (u : V) {v : V} → Ok v ≡ answered x u → v ≡ u
the_value None u e = cc
the_value (Some f) u e = cc

module _ {F : Type 0} where
  past_one : (b : Bool) (x y : Option F) (f : F) {z : Option F} → (x ≡ None → y ≡ z) →
      cond b x (Some f) ≡ None → cond b y (Some f) ≡ z
  past_one true x y f more e = more e
  past_one false x y f more e = cc

  -- where the first checks find nothing, the later ones decide
  pub past : (xs ys : List (Check F)) → first_fault xs ≡ None → first_fault (xs ++ ys) ≡ first_fault ys
  past [] ys e = refl
  past (c ∷ xs) ys e = past_one c.holds (first_fault xs) (first_fault (xs ++ ys)) c.fault (past xs ys) e

  stops_one : (b : Bool) (x y : Option F) (g : F) {f : F} → (x ≡ Some f → y ≡ Some f) →
      cond b x (Some g) ≡ Some f → cond b y (Some g) ≡ Some f
  stops_one true x y g more e = more e
  stops_one false x y g more e = e

  -- the fault of the first checks is that of all
  pub stops : (xs ys : List (Check F)) {f : F} → first_fault xs ≡ Some f → first_fault (xs ++ ys) ≡ Some f
  stops [] ys e = cc
  stops (c ∷ xs) ys e = stops_one c.holds (first_fault xs) (first_fault (xs ++ ys)) c.fault (stops xs ys) e

  -- a check that holds can be left out
  pub left_out : (xs : List (Check F)) (c : Check F) (ys : List (Check F)) → c.holds ≡ true →
      first_fault (xs ++ c ∷ ys) ≡ first_fault (xs ++ ys)
  left_out [] c ys e = ap (λ b. cond b (first_fault ys) (Some c.fault)) e
  left_out (d ∷ xs) c ys e = ap (λ x. cond d.holds x (Some d.fault)) (left_out xs c ys e)

  -- a call that refuses names the fault found
  pub the_fault : {V : Type 0} (x : Option F) (u : V) {f : F} → Err f ≡ answered x u → x ≡ Some f
  the_fault None u e = cc
  the_fault (Some g) u e = cc

  -- the first checks refuse: so do all
  pub refused_early : {V W : Type 0} (xs ys : List (Check F)) (u : V) (w : W) {f : F} →
      Err f ≡ answered (first_fault xs) u → Err f ≡ answered (first_fault (xs ++ ys)) w
  refused_early xs ys u w e = sym (ap (λ x. answered x w) (stops xs ys (the_fault (first_fault xs) u e)))

  -- the first checks pass and the later ones refuse
  pub refused_late : {U V W : Type 0} (xs ys : List (Check F)) (u : U) (v : V) (w : W) {o : U} {f : F} →
      Ok o ≡ answered (first_fault xs) u → Err f ≡ answered (first_fault ys) v → Err f ≡ answered (first_fault (xs ++ ys)) w
  refused_late xs ys u v w first e =
      sym (ap (λ x. answered x w) (past xs ys (no_fault (first_fault xs) u first) ∙ the_fault (first_fault ys) v e))
