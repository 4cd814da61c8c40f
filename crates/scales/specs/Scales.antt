-- What a grey scale is, and what a measured scale adds to it. Assumes nothing.
use Rattle.std.specs.Prelude.{◌≡◌, ℕ}

-- The order, the two operations and the two ends of a kind of value.
pub record Grading (V : Type 0) : Type 1 where
  -- below a b: a is at or below b
  pub below : V → V → Type 0
  pub join : V → V → V
  pub meet : V → V → V
  pub lowest : V
  pub highest : V

-- "At or below" is a partial order.
pub record Order {V : Type 0} (below : V → V → Type 0) : Type 0 where
  pub reflexive : (a : V) → below a a
  pub transitive : {a b c : V} → below a b → below b c → below a c
  pub antisymmetric : {a b : V} → below a b → below b a → a ≡ b

-- The join is the least value at or above both, the meet the greatest at or below both.
pub record Lattice {V : Type 0} (scale : Grading V) : Type 0 where
  pub order : Order scale.below
  pub join_left : (a b : V) → scale.below a (scale.join a b)
  pub join_right : (a b : V) → scale.below b (scale.join a b)
  pub join_least : {a b c : V} → scale.below a c → scale.below b c → scale.below (scale.join a b) c
  pub meet_left : (a b : V) → scale.below (scale.meet a b) a
  pub meet_right : (a b : V) → scale.below (scale.meet a b) b
  pub meet_greatest : {a b c : V} → scale.below c a → scale.below c b → scale.below c (scale.meet a b)

-- A value between the two ends.
pub record Bounded {V : Type 0} (scale : Grading V) (a : V) : Type 0 where
  pub low : scale.below scale.lowest a
  pub high : scale.below a scale.highest

-- The gap of a over b is 0 exactly when a is at or below b.
pub record Gaps {V : Type 0} (scale : Grading V) (gap : V → V → ℕ) : Type 0 where
  pub none : {a b : V} → scale.below a b → gap a b ≡ 0
  pub only : {a b : V} → gap a b ≡ 0 → scale.below a b
