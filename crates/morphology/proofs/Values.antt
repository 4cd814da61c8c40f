-- A pixel's value against the reads and writes of code. Assumes nothing.
use Rattle.std.proofs.Common.{◌≡◌, ℕ, zero, suc, ◌<◌, ◌≢◌, List, [], ◌∷◌, length, get_or, set, sym, refl, ◌∙◌, subst, arith, length-set}
use Rattle.std.proofs.lemmas.List.{get_or-set_same, get_or-set_other}
use Rattle.morphology.specs.Pictures.{At, here, later}
use Rattle.morphology.proofs.Pictures.{at_bound}

module _ {V : Type 0} where
  -- an element that code reads, whatever the default
  pub at_getD : (f : List V) (i : ℕ) (d : V) → i < length f → At f i (get_or f i d)
  at_getD [] i d h = absurd (omega arith)
  at_getD (u ∷ us) zero d h = here
  at_getD (u ∷ us) (suc i) d h = later (at_getD us i d (omega arith))

  pub at_is : {f : List V} {i : ℕ} {v : V} (d : V) → At f i v → get_or f i d ≡ v
  at_is d here = refl
  at_is d (later a) = at_is d a

  -- as code knows it: the default is the element itself
  pub at_read : (f : List V) (i : ℕ) (v : V) → i < length f → v ≡ get_or f i v → At f i v
  at_read f i v h e = subst (At f i) (sym e) (at_getD f i v h)

  -- after a write at i
  pub at_set_same : (f : List V) (i : ℕ) (v : V) {u : V} → At (set f i v) i u → u ≡ v
  at_set_same f i v {u} a =
      let within : i < length f = subst (λ n. i < n) (length-set f i v) (at_bound a) in
      sym (at_is u a) ∙ get_or-set_same f i v u within

  pub at_set_other : (f : List V) (i x : ℕ) (v : V) {u : V} → x ≢ i → At (set f i v) x u → At f x u
  at_set_other f i x v {u} ne a =
      let within : x < length f = subst (λ n. x < n) (length-set f i v) (at_bound a) in
      let same : get_or f x u ≡ u = sym (get_or-set_other f i x v u ne) ∙ at_is u a in
      subst (At f x) same (at_getD f x u within)
