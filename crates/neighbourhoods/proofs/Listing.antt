-- Elements of a list, and of its parts. Assumes nothing.
use Rattle.std.proofs.Common.{◌≡◌, ◌==◌, ℕ, zero, suc, ◌<◌, ◌≤◌, true, ◌⊎◌, List, [], ◌∷◌, ◌++◌, map, length, get_or, take, sym, refl, ap, subst, inl, inr, arith}
use Rattle.std.specs.List.{list_any}
use Rattle.std.proofs.lemmas.List.Folds.{list_any_at}
use Rattle.std.proofs.lemmas.Bool.{false≢true, cases_eq, or_cases, eq-eqb, eqb-true}
use Rattle.morphology.specs.Pictures.{At, here, later}
use Rattle.morphology.proofs.Pictures.{at_bound}
use Rattle.morphology.proofs.Values.{at_is}
use Rattle.neighbourhoods.specs.Listings.{In}

module _ {A : Type 0} where
  -- in the head of a list
  pub at_take : (n : ℕ) (xs : List A) {i : ℕ} {v : A} → At (take n xs) i v → At xs i v
  at_take zero [] a = elim a [ ]
  at_take (suc n) [] a = elim a [ ]
  at_take zero (x ∷ xs) a = elim a [ ]
  at_take (suc n) (x ∷ xs) here = here
  at_take (suc n) (x ∷ xs) (later a) = later (at_take n xs a)

  -- as code reads it
  pub at_head : (xs : List A) (n i : ℕ) (d : A) → i < n → n ≤ length xs → At (take n xs) i (get_or xs i d)
  at_head [] n i d h k = absurd (omega arith)
  at_head (x ∷ xs) zero i d h k = absurd (omega arith)
  at_head (x ∷ xs) (suc n) zero d h k = here
  at_head (x ∷ xs) (suc n) (suc i) d h k = later (at_head xs n i d (omega arith) (omega arith))

  -- after one more at the end
  pub at_before : (u : A) {xs : List A} {i : ℕ} {v : A} → At xs i v → At (xs ++ u ∷ []) i v
  at_before u here = here
  at_before u (later a) = later (at_before u a)

  pub at_last : (xs : List A) (u : A) → At (xs ++ u ∷ []) (length xs) u
  at_last [] u = here
  at_last (x ∷ xs) u = later (at_last xs u)

  pub at_pushed : (xs : List A) {i : ℕ} {u v : A} → At (xs ++ u ∷ []) i v → At xs i v ⊎ ((i ≡ length xs) × (v ≡ u))
  at_pushed [] here = inr (refl, refl)
  at_pushed [] (later a) = elim a [ ]
  at_pushed (x ∷ xs) here = inl here
  at_pushed (x ∷ xs) (later a) = elim (at_pushed xs a) [
    | inl b ↦ inl (later b)
    | inr e ↦ inr (ap suc e.0, e.1)
  ]

-- a list mapped
module _ {A B : Type 0} (F : A → B) where
  pub at_map : {xs : List A} {i : ℕ} {v : A} → At xs i v → At (map F xs) i (F v)
  at_map here = here
  at_map (later a) = later (at_map a)

  pub at_mapped : (xs : List A) {i : ℕ} {y : B} → At (map F xs) i y → (v : A) × At xs i v × (F v ≡ y)
  at_mapped [] a = elim a [ ]
  at_mapped (x ∷ xs) here = (x, here, refl)
  at_mapped (x ∷ xs) (later a) = let r = at_mapped xs a in (r.0, later r.1, r.2)

-- the test whether a pixel is listed
pub listed_in : (pixels : List ℕ) (p : ℕ) → list_any (λ listed. listed == p) pixels ≡ true → In pixels p
listed_in [] p h = absurd (false≢true h)
listed_in (x ∷ xs) p h = elim (or_cases (x == p) _ h) [
  | inl e ↦ (0, subst (At (x ∷ xs) 0) (eqb-true x p e) here)
  | inr rest ↦ let i = listed_in xs p rest in (suc i.0, later i.1)
]

pub in_listed : (pixels : List ℕ) (p : ℕ) → In pixels p → list_any (λ listed. listed == p) pixels ≡ true
in_listed pixels p (i, a) = list_any_at (λ listed. listed == p) pixels i p (at_bound a) (eq-eqb _ p (at_is p a))

-- whether a pixel stands in a list
pub in_or_not : (list : List ℕ) (p : ℕ) → In list p ⊎ (In list p → ⊥)
in_or_not [] p = inr (λ i. elim i.1 [ ])
in_or_not (x ∷ xs) p = elim (cases_eq p x) [
  | inl e ↦ inl (0, subst (At (x ∷ xs) 0) (sym e) here)
  | inr ne ↦ elim (in_or_not xs p) [ inl i ↦ inl (suc i.0, later i.1) | inr out ↦ inr (λ i. outside i.1 ne out refl) ]
]
  where
    outside : {y : ℕ} {i : ℕ} → At (x ∷ xs) i y → (p ≡ x → ⊥) → (In xs p → ⊥) → p ≡ y → ⊥
    outside here ne out e = ne e
    outside (later {i = k} a) ne out e = out (k, subst (At xs k) (sym e) a)
