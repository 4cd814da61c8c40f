-- What the loops over listed pixels keep. Assumes nothing.
use Rattle.std.proofs.Common.{◌≡◌, ℕ, ◌+◌, ◌<◌, ◌≤◌, ◌≢◌, ◌⊎◌, List, length, set, sym, ◌∙◌, subst, inl, inr, arith}
use Rattle.std.proofs.lemmas.Bool.{cases_eq}
use Rattle.scales.specs.Scales.{Grading, Lattice}
use Rattle.morphology.specs.Bounds.{JoinOf}
use Rattle.morphology.specs.Pictures.{At}
use Rattle.morphology.proofs.Bounds.{join_same, join_both}
use Rattle.morphology.proofs.Pictures.{at_bound, at_one}
use Rattle.morphology.proofs.Values.{at_set_same, at_set_other}
use Rattle.morphology.proofs.Sweep.{join_alone}
use Rattle.neighbourhoods.specs.Listings.{In}
use Rattle.operators.specs.Steps.{Once, Over, OwnOrOver, Put, inside, outside, AllPut}

-- pixel p stands among the first k of the list
pub record Early (pixels : List ℕ) (k p : ℕ) : Type 0 where
  pub place : ℕ
  pub early : place < k
  pub there : At pixels place p

module _ {pixels : List ℕ} where
  none_early : {p : ℕ} → Early pixels 0 p → ⊥
  none_early e = let h = e.early in omega arith

  longer : {k p : ℕ} → Early pixels k p → Early pixels (k + 1) p
  longer e = let h = e.early in record { place = e.place; early = omega arith; there = e.there }

  last : {k p : ℕ} → At pixels k p → Early pixels (k + 1) p
  last {k} a = record { place = k; early = omega arith; there = a }

  -- a pixel among the first k + 1 stands among the first k, or is the one at place k
  split : {k p q : ℕ} → At pixels k q → Early pixels (k + 1) p → Early pixels k p ⊎ (p ≡ q)
  split {k} {p} a e = elim (cases_eq e.place k) [
    | inl same ↦ inr (at_one (subst (λ i. At pixels i p) same e.there) a)
    | inr other ↦ let h = e.early in inl (record { place = e.place; early = omega arith; there = e.there })
  ]

  -- once the whole list is passed, all of it is among the first k
  early_in : {k p : ℕ} → Early pixels k p → In pixels p
  early_in e = (e.place, e.there)

  in_early : {k p : ℕ} → length pixels ≤ k → In pixels p → Early pixels k p
  in_early past i = let h = at_bound i.1 in record { place = i.0; early = omega arith; there = i.1 }

-- a value over some pixels is one over all others that they are among
module _ {V : Type 0} {A B : ℕ → Type 0} (to : (p : ℕ) → A p → B p) {f : List V} {u : V} where
  pub over_at : Over A f u → Over B f u
  over_at o = record { pixel = o.pixel; member = to o.pixel o.member; value = o.value }

  own_or_over_at : {own : V} → OwnOrOver own A f u → OwnOrOver own B f u
  own_or_over_at (inl e) = inl e
  own_or_over_at (inr o) = inr (over_at o)

-- the same members in other words
module _ {V : Type 0} {scale : Grading V} {A B : ℕ → Type 0} (to : (p : ℕ) → A p → B p) (from : (p : ℕ) → B p → A p) where
  own_or_over_same : {own : V} {f : List V} {b : V} → JoinOf scale (OwnOrOver own A f) b → JoinOf scale (OwnOrOver own B f) b
  own_or_over_same j = join_same (λ u. own_or_over_at to) (λ u. own_or_over_at from) j

  one_same : {v : V} {old : List V} {x : ℕ} {b : V} → Put scale A v old x b → Put scale B v old x b
  one_same {x = x} (inside m o) = inside (to x m) o
  one_same {x = x} (outside out o) = outside (λ m. out (from x m)) o

  pub put_same : {v : V} {old new : List V} → AllPut scale A v old new → AllPut scale B v old new
  put_same all x b a = one_same (all x b a)

-- the join of own and of the values at the first k pixels
module _ {V : Type 0} {scale : Grading V} (L : Lattice scale) {own : V} {f : List V} {pixels : List ℕ} where
  pub gather_more : {k p : ℕ} {all v : V} → At pixels k p → At f p v → JoinOf scale (OwnOrOver own (Early pixels k) f) all →
      JoinOf scale (OwnOrOver own (Early pixels (k + 1)) f) (scale.join all v)
  gather_more {k} {p} at-k at_p j = join_same to from (join_both L j (join_alone L at_p))
    where
      to : (u : V) → OwnOrOver own (Early pixels k) f u ⊎ At f p u → OwnOrOver own (Early pixels (k + 1)) f u
      to u (inl h) = own_or_over_at (λ q. longer) h
      to u (inr a) = inr (record { pixel = p; member = last at-k; value = a })

      from : (u : V) → OwnOrOver own (Early pixels (k + 1)) f u → OwnOrOver own (Early pixels k) f u ⊎ At f p u
      from u (inl e) = inl (inl e)
      from u (inr o) = elim (split at-k o.member) [
        | inl e ↦ inl (inr (record { pixel = o.pixel; member = e; value = o.value }))
        | inr same ↦ inr (subst (λ q. At f q u) same o.value)
      ]

pub gather_all : {V : Type 0} {scale : Grading V} {own : V} {f : List V} {pixels : List ℕ} {k : ℕ} {all : V} → length pixels ≤ k →
    JoinOf scale (OwnOrOver own (Early pixels k) f) all → JoinOf scale (OwnOrOver own (In pixels) f) all
gather_all past j = own_or_over_same (λ p. early_in) (λ p. in_early past) j

-- the old picture with v joined in at the first k pixels
module _ {V : Type 0} {scale : Grading V} {pixels : List ℕ} {v : V} {old : List V} where
  pub put_none : AllPut scale (Early pixels 0) v old old
  put_none x b a = outside none_early a

  pub put_more : {k p : ℕ} {new : List V} {u w : V} → Once pixels → At pixels k p → At new p u → w ≡ scale.join u v →
      AllPut scale (Early pixels k) v old new → AllPut scale (Early pixels (k + 1)) v old (set new p w)
  put_more {k} {p} {new} {u} {w} once at-k at_p joined all x b a = elim (cases_eq x p) [
    | inl same ↦ subst (λ q. Put scale (Early pixels (k + 1)) v old q b) (sym same) (written (subst (λ q. At (set new p w) q b) same a))
    | inr other ↦ kept other (all x b (at_set_other new p x w other a))
  ]
    where
      untouched : {w : V} → Put scale (Early pixels k) v old p w → At old p w
      untouched (inside e o) = let bad = once e.place k p e.there at-k in let h = e.early in absurd (omega arith)
      untouched (outside out o) = o

      written : {z : V} → At (set new p w) p z → Put scale (Early pixels (k + 1)) v old p z
      written a' =
          let here = inside (last at-k) (untouched (all p u at_p)) in
          subst (Put scale (Early pixels (k + 1)) v old p) (sym (at_set_same new p w a' ∙ joined)) here

      kept : {y : ℕ} {w : V} → y ≢ p → Put scale (Early pixels k) v old y w → Put scale (Early pixels (k + 1)) v old y w
      kept other (inside e o) = inside (longer e) o
      kept other (outside out o) = outside (λ e. elim (split at-k e) [ inl sooner ↦ out sooner | inr same ↦ other same ]) o

  pub put_all : {k : ℕ} {new : List V} → length pixels ≤ k → AllPut scale (Early pixels k) v old new → AllPut scale (In pixels) v old new
  put_all past all = put_same (λ p. early_in) (λ p. in_early past) all
