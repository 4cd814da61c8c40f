-- Pictures, and the operators over any relation of pixels that is the same both ways. Assumes nothing.
use Rattle.std.proofs.Common.{◌≡◌, ℕ, zero, suc, ◌<◌, ◌⊎◌, inl, inr, Bool, true, false, cond, List, [], ◌∷◌, length, sym, refl, ap, ◌∙◌, subst, ap₂, arith}
use native.Mathlib.Nat.{suc_inj}
use Rattle.std.proofs.lemmas.Bool.{false≢true}
use Rattle.scales.specs.Scales.{Grading, Order, Lattice}
use Rattle.morphology.specs.Bounds.{turned, JoinOf}
use Rattle.morphology.specs.Algebra.{Adjunction}
use Rattle.morphology.specs.Pictures.{At, here, later, Under, none, both, each, gather, gathered}
use Rattle.morphology.proofs.Bounds.{turned_lattice, join_under}

module _ {V : Type 0} where
  pub at_bound : {f : List V} {i : ℕ} {v : V} → At f i v → i < length f
  at_bound here = omega arith
  at_bound (later a) = let k = at_bound a in omega arith

  pub at_some : (f : List V) (i : ℕ) → i < length f → (v : V) × At f i v
  at_some [] i h = absurd (omega arith)
  at_some (u ∷ us) zero h = (u, here)
  at_some (u ∷ us) (suc i) h = let r = at_some us i (omega arith) in (r.0, later r.1)

  -- a pixel has one value
  pub at_one : {f : List V} {i : ℕ} {u v : V} → At f i u → At f i v → u ≡ v
  at_one here here = refl
  at_one (later a) (later b) = at_one a b

  pub each_length : (F : ℕ → V → V) (f : List V) → length (each F f) ≡ length f
  each_length F [] = refl
  each_length F (v ∷ vs) = ap suc (each_length (λ i. F (suc i)) vs)

  each_at : (F : ℕ → V → V) {f : List V} {i : ℕ} {v : V} → At f i v → At (each F f) i (F i v)
  each_at F here = here
  each_at F (later a) = later (each_at (λ k. F (suc k)) a)

module _ {V : Type 0} {scale : Grading V} where
  pub under_at : {f g : List V} {i : ℕ} {u v : V} → Under scale f g → At f i u → At g i v → scale.below u v
  under_at none a b = elim a [ ]
  under_at (both h t) here here = h
  under_at (both h t) (later a) (later b) = under_at t a b

  pub under_length : {f g : List V} → Under scale f g → length f ≡ length g
  under_length none = refl
  under_length (both h t) = ap suc (under_length t)

  pub under_from : (f g : List V) → length f ≡ length g →
      ((i : ℕ) (u v : V) → At f i u → At g i v → scale.below u v) → Under scale f g
  under_from [] [] e h = none
  under_from [] (v ∷ vs) e h = absurd (omega arith)
  under_from (u ∷ us) [] e h = absurd (omega arith)
  under_from (u ∷ us) (v ∷ vs) e h =
      both (h zero u v here here) (under_from us vs (suc_inj e) (λ i a b p q. h (suc i) a b (later p) (later q)))

  -- the order turned over
  pub under_turned : {f g : List V} → Under scale f g → Under (turned scale) g f
  under_turned none = none
  under_turned (both h t) = both h (under_turned t)

module _ {V : Type 0} {scale : Grading V} (O : Order scale.below) where
  under_reflexive : (f : List V) → Under scale f f
  under_reflexive [] = none
  under_reflexive (u ∷ us) = both (O.reflexive u) (under_reflexive us)

  under_transitive : {f g h : List V} → Under scale f g → Under scale g h → Under scale f h
  under_transitive none none = none
  under_transitive (both a s) (both b t) = both (O.transitive a b) (under_transitive s t)

  under_antisymmetric : {f g : List V} → Under scale f g → Under scale g f → f ≡ g
  under_antisymmetric none none = refl
  under_antisymmetric (both a s) (both b t) = ap₂ ◌∷◌ (O.antisymmetric a b) (under_antisymmetric s t)

-- pictures are ordered as their values are
pub picture_order : {V : Type 0} {scale : Grading V} → Lattice scale → Order (Under scale)
picture_order L = record {
  reflexive = under_reflexive L.order;
  transitive = under_transitive L.order;
  antisymmetric = under_antisymmetric L.order;
}

module _ {V : Type 0} {scale : Grading V} (L : Lattice scale) where
  -- a picture is known by its size and by what each of its pixels joins
  pub same_joins : {Has : ℕ → V → Type 0} {r s : List V} → length r ≡ length s →
      ((x : ℕ) (b : V) → At r x b → JoinOf scale (Has x) b) → ((x : ℕ) (b : V) → At s x b → JoinOf scale (Has x) b) → r ≡ s
  same_joins {r = r} {s = s} size p q =
      (picture_order L).antisymmetric
      (under_from r s size (λ x a b at-r at-s. join_under (p x a at-r) (q x b at-s)))
      (under_from s r (sym size) (λ x b a at-s at-r. join_under (q x b at-s) (p x a at-r)))

  above_rest : (b : Bool) (u r : V) → scale.below r (cond b (scale.join u r) r)
  above_rest true u r = L.join_right u r
  above_rest false u r = L.order.reflexive r

  above_one : (b : Bool) (u r : V) → b ≡ true → scale.below u (cond b (scale.join u r) r)
  above_one true u r t = L.join_left u r
  above_one false u r t = absurd (false≢true t)

  least_two : (b : Bool) (u r : V) {c : V} → (b ≡ true → scale.below u c) → scale.below r c →
      scale.below (cond b (scale.join u r) r) c
  least_two true u r h k = L.join_least (h refl) k
  least_two false u r h k = k

  gather_own : (test : ℕ → Bool) (own : V) (f : List V) → scale.below own (gather scale.join test own f)
  gather_own test own [] = L.order.reflexive own
  gather_own test own (v ∷ vs) =
      L.order.transitive (gather_own (λ i. test (suc i)) own vs) (above_rest (test zero) v (gather scale.join (λ i. test (suc i)) own vs))

  gather_above : (test : ℕ → Bool) (own : V) {f : List V} {i : ℕ} {u : V} → test i ≡ true → At f i u →
      scale.below u (gather scale.join test own f)
  gather_above test own t (here {v = v} {vs = vs}) = above_one (test zero) v (gather scale.join (λ k. test (suc k)) own vs) t
  gather_above test own t (later {u = v} {us = vs} a) =
      L.order.transitive (gather_above (λ k. test (suc k)) own t a) (above_rest (test zero) v (gather scale.join (λ k. test (suc k)) own vs))

  gather_least : (test : ℕ → Bool) (own : V) (f : List V) {c : V} → scale.below own c →
      ((i : ℕ) (u : V) → test i ≡ true → At f i u → scale.below u c) → scale.below (gather scale.join test own f) c
  gather_least test own [] h k = h
  gather_least test own (v ∷ vs) h k =
      least_two (test zero) v (gather scale.join (λ i. test (suc i)) own vs) (λ t. k zero v t here)
      (gather_least (λ i. test (suc i)) own vs h (λ i u t a. k (suc i) u t (later a)))

  module _ (reach : ℕ → ℕ → Bool) where
    -- the value that a pixel gets is what gather gives there
    gathered_at : (f : List V) (x : ℕ) {b : V} → At (gathered scale.join reach f) x b →
        (v : V) × At f x v × (gather scale.join (reach x) v f ≡ b)
    gathered_at f x {b} a =
        let F : ℕ → V → V = λ i v. gather scale.join (reach i) v f in
        let within : x < length f = subst (λ n. x < n) (each_length F f) (at_bound a) in
        let own = at_some f x within in
        (own.0, own.1, at_one (each_at F own.1) a)

    -- the join over what x reaches, where x reaches itself
    pub gathered_joins : (f : List V) (x : ℕ) (b : V) → reach x x ≡ true → At (gathered scale.join reach f) x b →
        JoinOf scale (λ u. (y : ℕ) × (reach x y ≡ true) × At f y u) b
    gathered_joins f x b self a =
        let own = gathered_at f x a in
        record {
          above = λ u has. subst (scale.below u) own.2 (gather_above (reach x) own.0 has.1 has.2);
          least = λ c all. subst (λ s. scale.below s c) own.2
              (gather_least (reach x) own.0 f (all own.0 (x, self, own.1)) (λ y u t at. all u (y, t, at)));
        }

    -- the join of the pixel's own value and of those that it reaches
    pub gathered_joins_own : (f : List V) (x : ℕ) (b : V) → At (gathered scale.join reach f) x b →
        JoinOf scale (λ u. At f x u ⊎ ((y : ℕ) × (reach x y ≡ true) × At f y u)) b
    gathered_joins_own f x b a =
        let own = gathered_at f x a in
        let joined = gather scale.join (reach x) own.0 f in
        record {
          above = λ u has. subst (scale.below u) own.2 (elim has [
            | inl at-x ↦ subst (λ v. scale.below v joined) (at_one own.1 at-x) (gather_own (reach x) own.0 f)
            | inr reached ↦ gather_above (reach x) own.0 reached.1 reached.2
          ]);
          least = λ c all. subst (λ s. scale.below s c) own.2
              (gather_least (reach x) own.0 f (all own.0 (inl own.1)) (λ y u t at. all u (inr (y, t, at))));
        }

    gathered_extends : (f : List V) → Under scale f (gathered scale.join reach f)
    gathered_extends f =
        under_from f (gathered scale.join reach f) (sym (each_length _ f))
        (λ x u b a k.
        let own = gathered_at f x k in
        let here = gather_own (reach x) own.0 f in
        subst (scale.below u) own.2 (subst (λ v. scale.below v (gather scale.join (reach x) own.0 f)) (at_one own.1 a) here))

    -- what each pixel's value, and that of each pixel reached, keeps at or below
    gathered_under : (f g : List V) → length f ≡ length g →
        ((x y : ℕ) (u c : V) → reach x y ≡ true → At f y u → At g x c → scale.below u c) →
        Under scale f g → Under scale (gathered scale.join reach f) g
    gathered_under f g e all own-under =
        under_from (gathered scale.join reach f) g (each_length _ f ∙ e)
        (λ x b c a k. let own = gathered_at f x a in
        subst (λ s. scale.below s c) own.2
        (gather_least (reach x) own.0 f (under_at own-under own.1 k) (λ y u t at. all x y u c t at k)))

    reached_below : {f : List V} {x y : ℕ} {u b : V} → reach x y ≡ true → At f y u → At (gathered scale.join reach f) x b → scale.below u b
    reached_below {f} {x} {u = u} t a k =
        let own = gathered_at f x k in subst (scale.below u) own.2 (gather_above (reach x) own.0 t a)

-- a picture at or below an eroded one stays below it when dilated
gathered_back : {V : Type 0} {scale : Grading V} (L : Lattice scale) (reach : ℕ → ℕ → Bool) →
    ((x y : ℕ) → reach x y ≡ true → reach y x ≡ true) →
    {f g : List V} → Under scale f (gathered scale.meet reach g) → Under scale (gathered scale.join reach f) g
gathered_back {scale = scale} L reach both_ways {f} {g} h =
    let same : length f ≡ length g = under_length h ∙ each_length _ g in
    let shrunk : Under scale (gathered scale.meet reach g) g = under_turned (gathered_extends (turned_lattice L) reach g) in
    gathered_under L reach f g same
    (λ x y u c t a k.
    let there = at_some (gathered scale.meet reach g) y (subst (λ n. y < n) (under_length h) (at_bound a)) in
    L.order.transitive (under_at h a there.1) (reached_below (turned_lattice L) reach (both_ways x y t) k there.1))
    ((picture_order L).transitive h shrunk)

pub gathered_adjoint : {V : Type 0} {scale : Grading V} (L : Lattice scale) (reach : ℕ → ℕ → Bool) →
    ((x y : ℕ) → reach x y ≡ true → reach y x ≡ true) →
    Adjunction (Under scale) (gathered scale.join reach) (gathered scale.meet reach)
gathered_adjoint L reach both_ways = record {
  order = picture_order L;
  across = λ h. under_turned (gathered_back (turned_lattice L) reach both_ways (under_turned h));
  back = gathered_back L reach both_ways;
  extends = gathered_extends L reach;
}
