-- Dilation and erosion over the symmetric neighbourhoods. Assumes nothing.
use Rattle.std.proofs.Common.{◌≡◌, ℕ, ◌<◌, ◌⊎◌, List, length, sym, ◌∙◌, subst, inl, inr}
use Rattle.scales.specs.Scales.{Grading, Lattice}
use Rattle.morphology.specs.Algebra.{Adjunction}
use Rattle.morphology.specs.Bounds.{JoinOf}
use Rattle.morphology.specs.Neighbourhoods.{Ground, pixels, NearItself}
use Rattle.morphology.specs.Tables.{symmetric}
use Rattle.morphology.specs.Pictures.{At, Under, Around, Dilated, operator, dilation, erosion}
use Rattle.morphology.specs.Theorems.{LawsOfOperators}
use Rattle.morphology.proofs.Bounds.{turned_lattice, join_under, join_same}
use Rattle.morphology.proofs.Tables.{symmetric_sound, symmetric_complete, symmetric_back, symmetric_itself}
use Rattle.morphology.proofs.Pictures.{at_bound, each_length, under_from, picture_order, gathered_joins, gathered_joins_own, gathered_adjoint}

pub operator_length : {V : Type 0} (op : V → V → V) (g : Ground) (f : List V) → length (operator op g f) ≡ length f
unfolding operator
operator_length op g f = each_length _ f

module _ {V : Type 0} {scale : Grading V} (L : Lattice scale) (g : Ground) where
  -- each pixel gets the join of its own value and of those over its symmetric neighbourhood
  pub dilation_joins : (f : List V) (x : ℕ) (b : V) → At (dilation scale g f) x b → JoinOf scale (λ u. At f x u ⊎ Around g f x u) b
  unfolding operator
  dilation_joins f x b at = join_same
      (λ u h. elim h [
        | inl own ↦ inl own
        | inr a ↦ inr (record { pixel = a.0; neighbour = symmetric_sound g x a.0 a.1; value = a.2 })
      ])
      (λ u h. elim h [ inl own ↦ inl own | inr a ↦ inr (a.pixel, symmetric_complete g a.neighbour, a.value) ])
      (gathered_joins_own L (symmetric g) f x b at)

  pub dilation_is : {f : List V} → NearItself g → length f ≡ pixels g → Dilated scale g f (dilation scale g f)
  unfolding operator
  dilation_is {f} near size = record {
    size = each_length _ f;
    joins = λ x b at.
        let inside : x < pixels g = subst (λ n. x < n) (each_length _ f ∙ size) (at_bound at) in
        join_same
        (λ u a. record { pixel = a.0; neighbour = symmetric_sound g x a.0 a.1; value = a.2 })
        (λ u a. (a.pixel, symmetric_complete g a.neighbour, a.value))
        (gathered_joins L (symmetric g) f x b (symmetric_complete g (symmetric_itself near x inside)) at);
  }

  -- two pictures with the same joins: each is at or below the other
  dilated_under : {f r s : List V} → Dilated scale g f r → Dilated scale g f s → Under scale r s
  dilated_under {r = r} {s = s} p q = under_from r s (p.size ∙ sym q.size) (λ x a b at-r at-s. join_under (p.joins x a at-r) (q.joins x b at-s))

  pub dilation_only : {f r : List V} → NearItself g → length f ≡ pixels g → Dilated scale g f r → r ≡ dilation scale g f
  dilation_only near size d =
      let own = dilation_is near size in (picture_order L).antisymmetric (dilated_under d own) (dilated_under own d)

  pub adjoint : Adjunction (Under scale) (dilation scale g) (erosion scale g)
  unfolding operator
  adjoint = gathered_adjoint L (symmetric g) (λ x y t. symmetric_complete g (symmetric_back (symmetric_sound g x y t)))

-- erosion is dilation with the order turned over
pub operators : {V : Type 0} {scale : Grading V} (L : Lattice scale) (g : Ground) → LawsOfOperators scale g
operators L g = record {
  dilation_is = dilation_is L g;
  dilation_only = dilation_only L g;
  erosion_is = λ near size. let d = dilation_is (turned_lattice L) g near size in record { size = d.size; meets = d.joins };
  erosion_only = λ near size e. dilation_only (turned_lattice L) g near size (record { size = e.size; joins = e.meets });
  adjoint = adjoint L g;
}
