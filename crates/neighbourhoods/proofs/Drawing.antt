-- Sheets that show which pixels are members. Assumes nothing.
use Rattle.std.proofs.Common.{◌≡◌, ℕ, zero, suc, ◌<◌, ◌≤◌, Bool, true, false, cond, ◌⊎◌, List, [], ◌∷◌, length, get_or, set, Decides, sym, refl, ap, ◌∙◌, subst, inl, inr, arith, length-set}
use lib.ListN.{length-replicate}
use Rattle.std.proofs.lemmas.List.{get_or-set_same, get_or-set_other, get_or_past, get_or-replicate, ext_get_or}
use Rattle.std.proofs.lemmas.Bool.{cases_eq, cases_lt, both_ways}
use Rattle.morphology.specs.Pictures.{At, here, later}
use Rattle.morphology.specs.Tables.{tabulate}
use Rattle.neighbourhoods.specs.Zeros.{zeros}
use Rattle.neighbourhoods.specs.Listings.{In, Lists}
use Rattle.neighbourhoods.specs.Sheets.{sheet_of, drawn}
use Rattle.neighbourhoods.proofs.Listing.{in_or_not}

drawn_length : (ps sheet : List ℕ) → length (drawn sheet ps) ≡ length sheet
drawn_length [] sheet = refl
drawn_length (p ∷ ps) sheet = drawn_length ps (set sheet p 1) ∙ length-set sheet p 1

-- a 1 stays
stays : (ps sheet : List ℕ) (y : ℕ) → y < length sheet → get_or sheet y 0 ≡ 1 → get_or (drawn sheet ps) y 0 ≡ 1
stays [] sheet y inside e = e
stays (p ∷ ps) sheet y inside e = stays ps (set sheet p 1) y (subst (λ n. y < n) (sym (length-set sheet p 1)) inside) (elim (cases_eq y p) [
  | inl same ↦ ap (λ x. get_or (set sheet p 1) x 0) same ∙ get_or-set_same sheet p 1 0 (subst (λ x. x < length sheet) same inside)
  | inr ne ↦ get_or-set_other sheet p y 1 0 ne ∙ e
])

drawn_in : {ps : List ℕ} {i y : ℕ} (sheet : List ℕ) → At ps i y → y < length sheet → get_or (drawn sheet ps) y 0 ≡ 1
drawn_in sheet (here {v = p} {vs = ps}) inside =
    stays ps (set sheet p 1) p (subst (λ n. p < n) (sym (length-set sheet p 1)) inside) (get_or-set_same sheet p 1 0 inside)
drawn_in {y = y} sheet (later {u = p} a) inside = drawn_in (set sheet p 1) a (subst (λ n. y < n) (sym (length-set sheet p 1)) inside)

drawn_out : (ps sheet : List ℕ) (y : ℕ) → (In ps y → ⊥) → get_or (drawn sheet ps) y 0 ≡ get_or sheet y 0
drawn_out [] sheet y out = refl
drawn_out (p ∷ ps) sheet y out =
    drawn_out ps (set sheet p 1) y (λ i. out (suc i.0, later i.1))
    ∙ get_or-set_other sheet p y 1 0 (λ e. out (0, subst (At (p ∷ ps) 0) (sym e) here))

-- a sheet of n pixels with 1 at each member, and else 0
pub record Shows (n : ℕ) (Member : ℕ → Type 0) (sheet : List ℕ) : Type 0 where
  pub size : length sheet ≡ n
  pub bits : (y : ℕ) → get_or sheet y 0 ≤ 1
  pub sound : (y : ℕ) → get_or sheet y 0 ≡ 1 → Member y
  pub complete : (y : ℕ) → Member y → get_or sheet y 0 ≡ 1

zero_at : (n y : ℕ) → get_or (zeros n) y 0 ≡ 0
zero_at n y = elim (cases_lt y n) [
  | inl inside ↦ get_or-replicate n y 0 0 inside
  | inr past ↦ get_or_past (zeros n) y 0 (subst (λ x. x ≤ y) (sym (length-replicate {A = ℕ} n 0)) past)
]

-- a sheet of zeros shows none
pub shows_none : (n : ℕ) (Member : ℕ → Type 0) → ((y : ℕ) → Member y → ⊥) → Shows n Member (zeros n)
shows_none n Member none = record {
  size = length-replicate n 0;
  bits = λ y. omega (arith, zero_at n y);
  sound = λ y e. absurd (omega (arith, zero_at n y));
  complete = λ y m. absurd (none y m);
}

-- more members are drawn
pub shows_more : {n : ℕ} {M N P : ℕ → Type 0} {sheet ps : List ℕ} → Shows n M sheet → Lists N ps → ((y : ℕ) → N y → y < n) →
    ((y : ℕ) → M y → P y) → ((y : ℕ) → N y → P y) → ((y : ℕ) → P y → M y ⊎ N y) → Shows n P (drawn sheet ps)
shows_more {n} {sheet = sheet} {ps} s l inside from-m from-n parts =
    let found = λ (y : ℕ) (i : In ps y). drawn_in sheet i.1 (subst (λ k. y < k) (sym s.size) (inside y (l.sound i.1))) in
    record {
      size = drawn_length ps sheet ∙ s.size;
      bits = λ y. elim (in_or_not ps y) [
        | inl i ↦ omega (arith, found y i)
        | inr out ↦ omega (arith, drawn_out ps sheet y out, s.bits y)
      ];
      sound = λ y e. elim (in_or_not ps y) [
        | inl i ↦ from-n y (l.sound i.1)
        | inr out ↦ from-m y (s.sound y (sym (drawn_out ps sheet y out) ∙ e))
      ];
      complete = λ y p. elim (parts y p) [
        | inl m ↦ elim (in_or_not ps y) [ inl i ↦ found y i | inr out ↦ drawn_out ps sheet y out ∙ s.complete y m ]
        | inr k ↦ found y (l.complete k)
      ];
    }

pub shows_same : {n : ℕ} {M N : ℕ → Type 0} {sheet : List ℕ} → Shows n M sheet → ((y : ℕ) → M y → N y) → ((y : ℕ) → N y → M y) → Shows n N sheet
shows_same s to from = record { size = s.size; bits = s.bits; sound = λ y e. to y (s.sound y e); complete = λ y k. s.complete y (from y k) }

tabulate_length : (n : ℕ) (f : ℕ → ℕ) → length (tabulate n f) ≡ n
tabulate_length zero f = refl
tabulate_length (suc n) f = ap suc (tabulate_length n (λ i. f (suc i)))

tabulate_at : (n : ℕ) (f : ℕ → ℕ) (i : ℕ) → i < n → get_or (tabulate n f) i 0 ≡ f i
tabulate_at zero f i h = absurd (omega arith)
tabulate_at (suc n) f zero h = refl
tabulate_at (suc n) f (suc i) h = tabulate_at n (λ k. f (suc k)) i (omega arith)

-- a sheet that shows the members is the sheet of the test that decides them
pub shows_test : {n : ℕ} {Member : ℕ → Type 0} {sheet : List ℕ} (test : ℕ → Bool) → Shows n Member sheet →
    ((y : ℕ) → Decides (test y) (Member y)) → sheet ≡ sheet_of n test
shows_test {n} {Member} {sheet} test s decided =
    ext_get_or 0 sheet (sheet_of n test) (s.size ∙ sym (tabulate_length n (λ y. cond (test y) 1 0)))
    (λ y inside. by y (test y) refl ∙ sym (tabulate_at n (λ x. cond (test x) 1 0) y (subst (λ k. y < k) s.size inside)))
  where
    by : (y : ℕ) (b : Bool) → test y ≡ b → get_or sheet y 0 ≡ cond b 1 0
    by y true e = s.complete y ((decided y).0 e)
    by y false e = elim (cases_eq (get_or sheet y 0) 1) [
      | inl one ↦ absurd (both_ways (test y) e ((decided y).1 (s.sound y one)))
      | inr ne ↦ let k = s.bits y in omega arith
    ]
