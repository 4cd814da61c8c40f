-- What the loop over the centres keeps, and the repetition of it. Assumes nothing.
use Rattle.std.proofs.Common.{◌≡◌, ℕ, ◌+◌, Bool, true, false, List, length, sym, refl, ◌∙◌, subst, inl, inr, arith}
use Rattle.scales.specs.Scales.{Grading, Lattice}
use Rattle.morphology.specs.Algebra.{times}
use Rattle.morphology.specs.Bounds.{JoinOf}
use Rattle.morphology.specs.Neighbourhoods.{Ground, pixels as count, Weak, first, next}
use Rattle.morphology.specs.Pictures.{At, dilation}
use Rattle.morphology.proofs.Bounds.{turned_lattice, join_same}
use Rattle.morphology.proofs.Tables.{weak_inside}
use Rattle.morphology.proofs.Values.{at_getD}
use Rattle.morphology.proofs.Sweep.{InWeak, Swept, SweptTo, swept_in, swept_out, sweep_starts, sweep_ends_anywhere}
use Rattle.neighbourhoods.specs.Listings.{In, Lists}
use Rattle.operators.specs.Steps.{towards, Within, OwnOrOver, Over, Put, inside, outside, AllPut, Spread}
use Rattle.operators.proofs.Listed.{over_at, put_same}

-- either way the scale is a lattice
pub towards_lattice : {V : Type 0} {scale : Grading V} (up : Bool) → Lattice scale → Lattice (towards up scale)
towards_lattice true L = L
towards_lattice false L = turned_lattice L

-- a weak neighbourhood that has a pixel has its centre
holds_centre : {g : Ground} {z x : ℕ} → Weak g z x → Weak g z z
holds_centre (first h t) = first h t
holds_centre (next w j h t) = holds_centre w

-- what the list of a flood serves for
module _ {g : Ground} {z : ℕ} {pixels : List ℕ} (listed : Lists (Weak g z) pixels) where
  pub lists_within : {n : ℕ} → n ≡ count g → Within n pixels
  lists_within same i h = let w = weak_inside (listed.sound (at_getD pixels i 0 h)) in omega arith

  pub spread_is : {V : Type 0} {scale : Grading V} {f old new : List V} {own v : V} → At f z own →
      JoinOf scale (OwnOrOver own (In pixels) f) v → AllPut scale (In pixels) v old new → Spread scale g z f old new
  spread_is {f = f} {v = v} at-z j all = record {
    value = v;
    joins = λ w. join_same
        (λ u h. elim h [
          | inl e ↦ record { pixel = z; member = holds_centre w; value = subst (At f z) (sym e) at-z }
          | inr o ↦ over_at (λ p i. listed.sound i.1) o
        ])
        (λ u o. inr (over_at (λ p. listed.complete) o))
        j;
    put = put_same (λ p i. listed.sound i.1) (λ p. listed.complete) all;
  }

-- what a flood from z brings
module _ {V : Type 0} {scale : Grading V} (L : Lattice scale) {g : Ground} {f : List V} {z : ℕ} where
  joins_weak : {v : V} → JoinOf scale (Over (Weak g z) f) v → JoinOf scale (InWeak g f z) v
  joins_weak j = join_same
      (λ u o. record { pixel = o.pixel; member = o.member; value = o.value })
      (λ u o. record { pixel = o.pixel; member = o.member; value = o.value })
      j

  swept_one : {spare : List V} {v : V} {x : ℕ} {b : V} → SweptTo scale g f z spare → (Weak g z x → JoinOf scale (InWeak g f z) v) →
      Put scale (Weak g z) v spare x b → JoinOf scale (Swept g f (z + 1) x) b
  swept_one {x = x} s j (inside {u = u} w o) = swept_in L g f w (s.each x u o) (j w)
  swept_one {x = x} s j (outside {u = u} out o) = swept_out L g f out (s.each x u o)

  swept_more : {spare spare' : List V} → SweptTo scale g f z spare → Spread scale g z f spare spare' → length spare' ≡ length spare →
      SweptTo scale g f (z + 1) spare'
  swept_more s b same = record { size = same ∙ s.size; each = λ x v a. swept_one s (λ w. joins_weak (b.joins w)) (b.put x v a) }

-- before the flood from z: spare has what the centres below z bring, and the marks are as they were
pub record Sweeping {V : Type 0} (scale : Grading V) (g : Ground) (f : List V) (z : ℕ) (spare : List V) (old marks : List ℕ) : Type 0 where
  pub swept : SweptTo scale g f z spare
  pub marks_kept : marks ≡ old

module _ {V : Type 0} {scale : Grading V} (L : Lattice scale) {g : Ground} {f : List V} {old : List ℕ} where
  pub sweeping_none : {spare : List V} → spare ≡ f → Sweeping scale g f 0 spare old old
  sweeping_none copied = record { swept = subst (SweptTo scale g f 0) (sym copied) (sweep_starts L g f); marks_kept = refl }

  pub sweeping_more : {z : ℕ} {spare spare' : List V} {marks marks' : List ℕ} → Sweeping scale g f z spare old marks →
      Spread scale g z f spare spare' → length spare' ≡ length spare → marks' ≡ marks → Sweeping scale g f (z + 1) spare' old marks'
  sweeping_more s b same kept = record { swept = swept_more L s.swept b same; marks_kept = kept ∙ s.marks_kept }

  pub sweeping_all : {z : ℕ} {spare : List V} {marks : List ℕ} → z ≡ count g →
      Sweeping scale g f z spare old marks → spare ≡ dilation scale g f
  sweeping_all {spare = spare} end s = sweep_ends_anywhere L g f (subst (λ n. SweptTo scale g f n spare) end s.swept)

-- after n operators: the picture has passed through n of them, and the marks are as they were
pub record Repeated {V : Type 0} (F : List V → List V) (n : ℕ) (f f' : List V) (old marks : List ℕ) : Type 0 where
  pub passed : f' ≡ times n F f
  pub marks_kept : marks ≡ old
