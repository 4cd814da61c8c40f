-- What follows of every scale from its laws. Assumes nothing.
use Rattle.std.proofs.Common.{◌≡◌, subst}
use Rattle.scales.specs.Scales.{Grading, Lattice}

module _ {V : Type 0} (scale : Grading V) (laws : Lattice scale) where
  -- a value that is its meet with another is at or below the other, and only then
  pub below_of_meet : {a b : V} → scale.meet a b ≡ a → scale.below a b
  below_of_meet {a} {b} e = subst (λ v. scale.below v b) e (laws.meet_right a b)

  pub meet_of_below : {a b : V} → scale.below a b → scale.meet a b ≡ a
  meet_of_below {a} {b} h = laws.order.antisymmetric (laws.meet_left a b) (laws.meet_greatest (laws.order.reflexive a) h)
