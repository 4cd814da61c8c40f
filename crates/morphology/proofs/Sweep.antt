-- Dilation computed centre by centre: what a loop over the centres keeps. Erosion is the same with the scale turned. Assumes nothing.
use Rattle.std.proofs.Common.{◌≡◌, ℕ, ◌+◌, ◌<◌, ◌⊎◌, List, length, refl, sym, ◌∙◌, subst, inl, inr, arith}
use Rattle.std.proofs.lemmas.Bool.{cases_eq}
use Rattle.scales.specs.Scales.{Grading, Lattice}
use Rattle.morphology.specs.Bounds.{JoinOf}
use Rattle.morphology.specs.Neighbourhoods.{Ground, pixels, Weak, NearItself}
use Rattle.morphology.specs.Pictures.{At, Around, dilation}
use Rattle.morphology.proofs.Bounds.{join_same, join_both}
use Rattle.morphology.proofs.Pictures.{at_bound, at_one, same_joins}
use Rattle.morphology.proofs.Tables.{centre_inside, symmetric_itself}
use Rattle.morphology.proofs.Operators.{operator_length, dilation_joins, dilation_only}

-- the value u stands in f at a pixel of the weak neighbourhood of z
pub record InWeak {V : Type 0} (g : Ground) (f : List V) (z : ℕ) (u : V) : Type 0 where
  pub pixel : ℕ
  pub member : Weak g z pixel
  pub value : At f pixel u

-- the value u stands in f at x itself, or at a pixel that the weak neighbourhood of some centre below k holds together with x
pub data Swept {V : Type 0} (g : Ground) (f : List V) (k x : ℕ) (u : V) : Type 0 where
  own : At f x u → Swept g f k x u
  by_centre : {z y : ℕ} → z < k → Weak g z x → Weak g z y → At f y u → Swept g f k x u

-- spare has what the centres below k bring
pub record SweptTo {V : Type 0} (scale : Grading V) (g : Ground) (f : List V) (k : ℕ) (spare : List V) : Type 0 where
  pub size : length spare ≡ length f
  pub each : (x : ℕ) (b : V) → At spare x b → JoinOf scale (Swept g f k x) b

module _ {V : Type 0} {scale : Grading V} (L : Lattice scale) where
  -- one pixel's value is the join of itself
  pub join_alone : {f : List V} {x : ℕ} {v : V} → At f x v → JoinOf scale (At f x) v
  join_alone {v = v} a = record {
    above = λ u b. subst (λ w. scale.below w v) (at_one a b) (L.order.reflexive v);
    least = λ c h. h v a;
  }

  module _ (g : Ground) (f : List V) where
    -- before the first centre
    pub swept_none : {x : ℕ} {v : V} → At f x v → JoinOf scale (Swept g f 0 x) v
    swept_none {x} a = join_same (λ u. own) from (join_alone a)
      where
        from : (u : V) → Swept g f 0 x u → At f x u
        from u (own b) = b
        from u (by_centre h wx wy b) = absurd (omega arith)

    -- centre k holds x: its whole neighbourhood joins in
    pub swept_in : {k x : ℕ} {b m : V} → Weak g k x → JoinOf scale (Swept g f k x) b → JoinOf scale (InWeak g f k) m →
        JoinOf scale (Swept g f (k + 1) x) (scale.join b m)
    swept_in {k} {x} w p q = join_same to from (join_both L p q)
      where
        to : (u : V) → Swept g f k x u ⊎ InWeak g f k u → Swept g f (k + 1) x u
        to u (inl (own a)) = own a
        to u (inl (by_centre h wx wy a)) = by_centre (omega arith) wx wy a
        to u (inr i) = by_centre (omega arith) w i.member i.value

        from : (u : V) → Swept g f (k + 1) x u → Swept g f k x u ⊎ InWeak g f k u
        from u (own a) = inl (own a)
        from u (by_centre {z = z} {y = y} h wx wy a) = elim (cases_eq z k) [
          | inl e ↦ inr (record { pixel = y; member = subst (λ c. Weak g c y) e wy; value = a })
          | inr ne ↦ inl (by_centre (omega arith) wx wy a)
        ]

    -- centre k does not hold x: nothing changes there
    pub swept_out : {k x : ℕ} {b : V} → (Weak g k x → ⊥) → JoinOf scale (Swept g f k x) b →
        JoinOf scale (Swept g f (k + 1) x) b
    swept_out {k} {x} out p = join_same to from p
      where
        to : (u : V) → Swept g f k x u → Swept g f (k + 1) x u
        to u (own a) = own a
        to u (by_centre h wx wy a) = by_centre (omega arith) wx wy a

        from : (u : V) → Swept g f (k + 1) x u → Swept g f k x u
        from u (own a) = own a
        from u (by_centre {z = z} h wx wy a) = elim (cases_eq z k) [
          | inl e ↦ absurd (out (subst (λ c. Weak g c x) e wx))
          | inr ne ↦ by_centre (omega arith) wx wy a
        ]

    -- after the last centre
    pub swept_all : {x : ℕ} {b : V} → NearItself g → length f ≡ pixels g →
        JoinOf scale (Swept g f (pixels g) x) b → JoinOf scale (Around g f x) b
    swept_all {x} near size p = join_same to from p
      where
        to : (u : V) → Swept g f (pixels g) x u → Around g f x u
        to u (own a) = record { pixel = x; neighbour = symmetric_itself near x (subst (λ n. x < n) size (at_bound a)); value = a }
        to u (by_centre {z = z} {y = y} h wx wy a) = record { pixel = y; neighbour = record { centre = z; holds_x = wx; holds_y = wy }; value = a }

        from : (u : V) → Around g f x u → Swept g f (pixels g) x u
        from u r = by_centre (centre_inside r.neighbour.holds_x) r.neighbour.holds_x r.neighbour.holds_y r.value

    -- after the last centre, whether or not the pixels are near themselves
    swept_whole : {x : ℕ} {b : V} → JoinOf scale (Swept g f (pixels g) x) b → JoinOf scale (λ u. At f x u ⊎ Around g f x u) b
    swept_whole {x} p = join_same to from p
      where
        to : (u : V) → Swept g f (pixels g) x u → At f x u ⊎ Around g f x u
        to u (own a) = inl a
        to u (by_centre {z = z} {y = y} h wx wy a) = inr (record { pixel = y; neighbour = record { centre = z; holds_x = wx; holds_y = wy }; value = a })

        from : (u : V) → At f x u ⊎ Around g f x u → Swept g f (pixels g) x u
        from u (inl a) = own a
        from u (inr r) = by_centre (centre_inside r.neighbour.holds_x) r.neighbour.holds_x r.neighbour.holds_y r.value

    -- a sweep begins with the picture and ends with its dilation
    pub sweep_starts : SweptTo scale g f 0 f
    sweep_starts = record { size = refl; each = λ x b a. swept_none a }

    pub sweep_ends : {spare : List V} → NearItself g → length f ≡ pixels g → SweptTo scale g f (pixels g) spare → spare ≡ dilation scale g f
    sweep_ends near size s = dilation_only L g near size (record { size = s.size; joins = λ x b a. swept_all near size (s.each x b a) })

    -- on any ground
    pub sweep_ends_anywhere : {spare : List V} → SweptTo scale g f (pixels g) spare → spare ≡ dilation scale g f
    sweep_ends_anywhere s =
        same_joins L (s.size ∙ sym (operator_length scale.join g f)) (λ x b a. swept_whole (s.each x b a)) (dilation_joins L g f)
