-- The order turned over, and joins of many values. Assumes nothing.
use Rattle.std.proofs.Common.{◌⊎◌, inl, inr}
use Rattle.scales.specs.Scales.{Grading, Lattice}
use Rattle.morphology.specs.Bounds.{turned, JoinOf}

-- a scale with its order turned over keeps the laws
pub turned_lattice : {V : Type 0} {scale : Grading V} → Lattice scale → Lattice (turned scale)
turned_lattice L = record {
  order = record {
    reflexive = L.order.reflexive;
    transitive = λ h k. L.order.transitive k h;
    antisymmetric = λ h k. L.order.antisymmetric k h;
  };
  join_left = L.meet_left;
  join_right = L.meet_right;
  join_least = L.meet_greatest;
  meet_left = L.join_left;
  meet_right = L.join_right;
  meet_greatest = L.join_least;
}

module _ {V : Type 0} {scale : Grading V} where
  -- two joins of the same values: each is at or below the other
  pub join_under : {Has : V → Type 0} {a b : V} → JoinOf scale Has a → JoinOf scale Has b → scale.below a b
  join_under {b = b} p q = p.least b q.above

  -- the join of the same values in other words
  pub join_same : {A B : V → Type 0} {b : V} → ((u : V) → A u → B u) → ((u : V) → B u → A u) → JoinOf scale A b → JoinOf scale B b
  join_same to from j = record { above = λ u h. j.above u (from u h); least = λ c h. j.least c (λ u a. h u (to u a)) }

  -- the join of two sets of values together
  pub join_both : {A B : V → Type 0} {a b : V} → Lattice scale → JoinOf scale A a → JoinOf scale B b →
      JoinOf scale (λ u. A u ⊎ B u) (scale.join a b)
  join_both {a = a} {b = b} L p q = record {
    above = λ u h. elim h [
      | inl x ↦ L.order.transitive (p.above u x) (L.join_left a b)
      | inr y ↦ L.order.transitive (q.above u y) (L.join_right a b)
    ];
    least = λ c h. L.join_least (p.least c (λ u x. h u (inl x))) (q.least c (λ u y. h u (inr y)));
  }
