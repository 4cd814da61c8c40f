-- Marks put one after another, and taken off again. Assumes nothing.
use Rattle.std.proofs.Common.{◌≡◌, ℕ, suc, ◌<◌, ◌≤◌, true, false, eqb, ◌≢◌, ◌⊎◌, List, [], ◌∷◌, ◌++◌, length, get_or, set, sym, refl, ap, ap₂, ◌∙◌, subst, inl, inr}
use Rattle.std.proofs.lemmas.List.{get_or-set_same, get_or-set_other, get_or_past, get_or-replicate, length-replicate, length-set, set-set, set-get_or, set_comm, set_past}
use Rattle.std.proofs.lemmas.Bool.{both_ways, cases_eq, cases_lt, eq-eqb, eqb-true}
use Rattle.morphology.specs.Pictures.{At, here, later}
use Rattle.neighbourhoods.specs.Zeros.{zeros}
use Rattle.neighbourhoods.specs.Marks.{served, free, marked, unmarked, Clear}
use Rattle.neighbourhoods.specs.Listings.{In}
use Rattle.neighbourhoods.specs.Finds.{unmark_all}

-- one mark
module _ (m : List ℕ) (p : ℕ) where
  pub marked_length : length (marked m p) ≡ length m
  unfolding marked
  marked_length = length-set m p 1

  pub marked_here : p < served (length m) → free (marked m p) p ≡ false
  unfolding served free marked
  marked_here inside = ap (λ x. eqb x 0) (get_or-set_same m p 1 0 inside)

  pub marked_elsewhere : (q : ℕ) → q ≢ p → free (marked m p) q ≡ free m q
  unfolding free marked
  marked_elsewhere q ne = ap (λ x. eqb x 0) (get_or-set_other m p q 1 0 ne)

  -- a mark more frees no pixel
  pub free_before : (q : ℕ) → free (marked m p) q ≡ true → free m q ≡ true
  unfolding served free marked
  free_before q h = elim (cases_eq q p) [
    | inl e ↦ elim (cases_lt p (length m)) [
      | inl inside ↦ absurd (both_ways _ (marked_here inside) (subst (λ x. free (marked m p) x ≡ true) e h))
      | inr past ↦ subst (λ x. eqb (get_or x q 0) 0 ≡ true) (set_past m p 1 past) h
    ]
    | inr ne ↦ sym (marked_elsewhere q ne) ∙ h
  ]

  -- a mark that is put on a free pixel comes off again
  pub marked_and_back : free m p ≡ true → unmarked (marked m p) p ≡ m
  unfolding free marked unmarked
  marked_and_back h = set-set m p 1 0 ∙ ap (λ x. set m p x) (sym (eqb-true (get_or m p 0) 0 h)) ∙ set-get_or m p 0

-- zeros mark no pixel
pub zeros_clear : (bytes n : ℕ) → Clear n (zeros bytes)
unfolding free
zeros_clear bytes n p h = eq-eqb _ 0 (elim (cases_lt p bytes) [
  | inl inside ↦ get_or-replicate bytes p 0 0 inside
  | inr past ↦ get_or_past (zeros bytes) p 0 (subst (λ x. x ≤ p) (sym (length-replicate {A = ℕ} bytes 0)) past)
])

-- the pixels of a list marked, the first first
unfoldable pub mark_all : List ℕ → List ℕ → List ℕ
mark_all m [] = m
mark_all m (p ∷ ps) = mark_all (marked m p) ps

-- each pixel of the list is free when it is marked
pub data Fresh : List ℕ → List ℕ → Type 0 where
  none : {m : List ℕ} → Fresh m []
  one : {m ps : List ℕ} {p : ℕ} → p < served (length m) → free m p ≡ true → Fresh (marked m p) ps → Fresh m (p ∷ ps)

pub mark_all_length : (ps m : List ℕ) → length (mark_all m ps) ≡ length m
unfolding mark_all
mark_all_length [] m = refl
mark_all_length (p ∷ ps) m = mark_all_length ps (marked m p) ∙ marked_length m p

pub mark_all_push : (ps m : List ℕ) (q : ℕ) → mark_all m (ps ++ q ∷ []) ≡ marked (mark_all m ps) q
unfolding mark_all
mark_all_push [] m q = refl
mark_all_push (p ∷ ps) m q = mark_all_push ps (marked m p) q

pub fresh_push : {m ps : List ℕ} (q : ℕ) → Fresh m ps → q < served (length m) → free (mark_all m ps) q ≡ true → Fresh m (ps ++ q ∷ [])
unfolding mark_all
fresh_push q none inside h = one inside h none
fresh_push {m = m} q (one {p = p} i f rest) inside h =
    one i f (fresh_push q rest (subst (λ x. q < served x) (sym (marked_length m p)) inside) h)

-- what is free in the end was free before
pub free_at_first : (ps m : List ℕ) (q : ℕ) → free (mark_all m ps) q ≡ true → free m q ≡ true
unfolding mark_all
free_at_first [] m q h = h
free_at_first (p ∷ ps) m q h = free_before m p q (free_at_first ps (marked m p) q h)

-- what is free before and marked in the end stands in the list
pub marked_since : (ps m : List ℕ) (q : ℕ) → free m q ≡ true → free (mark_all m ps) q ≡ false → In ps q
unfolding mark_all
marked_since [] m q f h = absurd (both_ways _ h f)
marked_since (p ∷ ps) m q f h = elim (cases_eq q p) [
  | inl e ↦ (0, subst (At (p ∷ ps) 0) (sym e) here)
  | inr ne ↦ let r = marked_since ps (marked m p) q (marked_elsewhere m p q ne ∙ f) h in (suc r.0, later r.1)
]

-- a pixel that is marked already is in no fresh list
not_again : {m ps : List ℕ} {q i : ℕ} → Fresh m ps → free m q ≡ false → At ps i q → ⊥
not_again none h a = elim a [ ]
not_again (one i f rest) h here = both_ways _ h f
not_again {m = m} {q = q} (one {p = p} i f rest) h (later a) = not_again rest (still (cases_eq q p)) a
  where
    still : (q ≡ p) ⊎ (q ≢ p) → free (marked m p) q ≡ false
    still (inl e) = subst (λ x. free (marked m p) x ≡ false) (sym e) (marked_here m p i)
    still (inr ne) = marked_elsewhere m p q ne ∙ h

-- a fresh list has each pixel once
same_place : {m ps : List ℕ} {i k q r : ℕ} → Fresh m ps → q ≡ r → At ps i q → At ps k r → i ≡ k
same_place none e a b = elim a [ ]
same_place (one i f rest) e here here = refl
same_place {m = m} (one {ps = ps} {p = p} i f rest) e here (later {i = n} b) =
    absurd (not_again rest (marked_here m p i) (subst (At ps n) (sym e) b))
same_place {m = m} (one {ps = ps} {p = p} i f rest) e (later {i = n} a) here =
    absurd (not_again rest (marked_here m p i) (subst (At ps n) e a))
same_place (one i f rest) e (later a) (later b) = ap suc (same_place rest e a b)

pub fresh_once : {m ps : List ℕ} {i k q : ℕ} → Fresh m ps → At ps i q → At ps k q → i ≡ k
fresh_once f a b = same_place f refl a b

-- the marks come off again
unmarked_twice : (m : List ℕ) (p q : ℕ) → unmarked (unmarked m p) q ≡ unmarked (unmarked m q) p
unfolding unmarked
unmarked_twice m p q = elim (cases_eq p q) [
  | inl e ↦ ap₂ (λ x y. set (set m x 0) y 0) e (sym e)
  | inr ne ↦ set_comm m p q 0 0 ne
]

-- in any order
unmarked_first : (ps m : List ℕ) (q : ℕ) → unmark_all (unmarked m q) ps ≡ unmarked (unmark_all m ps) q
unmarked_first [] m q = refl
unmarked_first (p ∷ ps) m q = ap (λ x. unmark_all x ps) (unmarked_twice m q p) ∙ unmarked_first ps (unmarked m p) q

pub all_back : {m ps : List ℕ} → Fresh m ps → unmark_all (mark_all m ps) ps ≡ m
unfolding mark_all
all_back none = refl
all_back {m = m} (one {ps = ps} {p = p} i f rest) =
    unmarked_first ps (mark_all (marked m p) ps) p ∙ ap (λ x. unmarked x p) (all_back rest) ∙ marked_and_back m p f
