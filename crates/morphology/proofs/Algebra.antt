-- The algebra of an adjunction: its dual, its powers, and its openings. Assumes nothing.
use Rattle.std.proofs.Common.{◌≡◌, ℕ, zero, suc, ◌+◌, ◌-◌, ◌≤◌, max, sym, refl, ap, ◌∙◌, subst, inl, inr, suc-add, zero-add, arith}
use Rattle.std.proofs.lemmas.Bool.{cases_lt}
use Rattle.morphology.specs.Algebra.{Adjunction, times, opening}

times_inside : {P : Type 0} (n : ℕ) (F : P → P) (f : P) → times n F (F f) ≡ times (suc n) F f
times_inside zero F f = refl
times_inside (suc n) F f = ap F (times_inside n F f)

pub times_add : {P : Type 0} (m n : ℕ) (F : P → P) (f : P) → times (m + n) F f ≡ times m F (times n F f)
times_add zero n F f = rw zero-add
times_add (suc m) n F f = rw suc-add (ap F (times_add m n F f))

-- the larger power does the smaller one last, or first
times_last : {P : Type 0} {p q : ℕ} (F : P → P) (f : P) → p ≤ q → times q F f ≡ times p F (times (q - p) F f)
times_last {p = p} {q} F f h =
    let e : q ≡ p + (q - p) = omega arith in
    ap (λ n. times n F f) e ∙ times_add p (q - p) F f

times_first : {P : Type 0} {p q : ℕ} (F : P → P) (f : P) → p ≤ q → times q F f ≡ times (q - p) F (times p F f)
times_first {p = p} {q} F f h =
    let e : q ≡ (q - p) + p = omega arith in
    ap (λ n. times n F f) e ∙ times_add (q - p) p F f

module _ {P : Type 0} {below : P → P → Type 0} {δ ε : P → P} (A : Adjunction below δ ε) where
  pub unit : (f : P) → below f (ε (δ f))
  unit f = A.across (A.order.reflexive (δ f))

  pub counit : (f : P) → below (δ (ε f)) f
  counit f = A.back (A.order.reflexive (ε f))

  pub δ-monotone : {f g : P} → below f g → below (δ f) (δ g)
  δ-monotone {g = g} h = A.back (A.order.transitive h (unit g))

  pub ε-monotone : {f g : P} → below f g → below (ε f) (ε g)
  ε-monotone {f} h = A.across (A.order.transitive (counit f) h)

  pub shrinks : (f : P) → below (ε f) f
  shrinks f = A.order.transitive (A.extends (ε f)) (counit f)

  δεδ : (f : P) → δ (ε (δ f)) ≡ δ f
  δεδ f = A.order.antisymmetric (counit (δ f)) (δ-monotone (unit f))

  -- the same with the order turned over
  pub dual : Adjunction (λ a b. below b a) ε δ
  dual = record {
    order = record {
      reflexive = A.order.reflexive;
      transitive = λ h k. A.order.transitive k h;
      antisymmetric = λ h k. A.order.antisymmetric k h;
    };
    across = A.back;
    back = A.across;
    extends = shrinks;
  }

  power_across : (p : ℕ) {f g : P} → below (times p δ f) g → below f (times p ε g)
  power_across zero h = h
  power_across (suc p) {f} {g} h = subst (below f) (times_inside p ε g) (power_across p (A.across h))

  power_back : (p : ℕ) {f g : P} → below f (times p ε g) → below (times p δ f) g
  power_back zero h = h
  power_back (suc p) {f} {g} h = A.back (power_back p (subst (below f) (sym (times_inside p ε g)) h))

  power_extends : (p : ℕ) (f : P) → below f (times p δ f)
  power_extends zero f = A.order.reflexive f
  power_extends (suc p) f = A.order.transitive (power_extends p f) (A.extends (times p δ f))

  -- δ and ε done p times each are adjoint too
  pub powers : (p : ℕ) → Adjunction below (times p δ) (times p ε)
  powers p = record { order = A.order; across = power_across p; back = power_back p; extends = power_extends p }

module _ {P : Type 0} {below : P → P → Type 0} {δ ε : P → P} (A : Adjunction below δ ε) where
  -- δ^q ε^p δ^p is δ^q where p ≤ q
  absorbs_inside : {p q : ℕ} (f : P) → p ≤ q → times q δ (times p ε (times p δ f)) ≡ times q δ f
  absorbs_inside {p} {q} f h =
      times_first δ (times p ε (times p δ f)) h ∙ ap (times (q - p) δ) (δεδ (powers A p) f) ∙ sym (times_first δ f h)

  -- δ^p ε^p δ^q is δ^q where p ≤ q
  absorbs_outside : {p q : ℕ} (f : P) → p ≤ q → times p δ (times p ε (times q δ f)) ≡ times q δ f
  absorbs_outside {p} {q} f h =
      ap (λ g. times p δ (times p ε g)) (times_last δ f h) ∙ δεδ (powers A p) (times (q - p) δ f) ∙ sym (times_last δ f h)

  -- an erosion takes dilations back first, and erodes what is left to erode
  pub sinks : (a p : ℕ) (f : P) → below (times (a - p) δ (times (p - a) ε f)) (times p ε (times a δ f))
  sinks a p f = elim (cases_lt p a) [
    | inl h ↦
        let none : p - a ≡ 0 = omega arith in
        let less : p ≤ a = omega arith in
        subst (λ n. below (times (a - p) δ (times n ε f)) (times p ε (times a δ f))) (sym none)
        (subst (λ g. below (times (a - p) δ f) (times p ε g)) (sym (times_last δ f less)) (unit (powers A p) (times (a - p) δ f)))
    | inr h ↦
        let none : a - p ≡ 0 = omega arith in
        subst (λ n. below (times n δ (times (p - a) ε f)) (times p ε (times a δ f))) (sym none)
        (subst (below (times (p - a) ε f)) (sym (times_first ε (times a δ f) h)) (ε-monotone (powers A (p - a)) (unit (powers A a) f)))
  ]

module _ {P : Type 0} {below : P → P → Type 0} {δ ε : P → P} (A : Adjunction below δ ε) where
  -- the smaller of two openings is lost in the larger one
  pub opening_both : (p q : ℕ) (f : P) → opening δ ε p (opening δ ε q f) ≡ opening δ ε (max p q) f
  opening_both p q f = elim (cases_lt p q) [
    | inl h ↦ let less : p ≤ q = omega arith in absorbs_outside A (times q ε f) less ∙ ap (λ n. opening δ ε n f) (omega arith)
    | inr h ↦ ap (times p δ) (absorbs_inside (dual A) f h) ∙ ap (λ n. opening δ ε n f) (omega arith)
  ]
