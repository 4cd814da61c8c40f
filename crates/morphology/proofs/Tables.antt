-- The tables of the neighbourhoods hold what the relations say. Assumes nothing.
use Rattle.std.proofs.Common.{◌≡◌, ℕ, zero, suc, ◌<◌, ◌≤◌, Bool, true, false, ◌&&◌, ◌||◌, eqb, [], get_or, sym, refl, ap, ◌∙◌, subst, inl, inr, le_refl, arith}
use Rattle.std.proofs.lemmas.Bool.{false≢true, eqb-true, eq-eqb, cases_lt, cases_eq, or_cases, or_left, or_right, and_parts, and_from}
use Rattle.morphology.specs.Tile.{joined}
use Rattle.morphology.specs.Neighbourhoods.{Ground, pixels, Weak, first, next, Symmetric, NearItself}
use Rattle.morphology.specs.Tables.{tabulate, square, look, some_below, one_step, ways, weak_table, symmetric_table, weak, symmetric}
use Rattle.morphology.specs.Theorems.{LawsOfNeighbourhoods}
use Rattle.morphology.proofs.Tile.{joined_sound, joined_complete}

some_below_yes : (n : ℕ) (f : ℕ → Bool) (i : ℕ) → i < n → f i ≡ true → some_below n f ≡ true
some_below_yes zero f i h t = absurd (omega arith)
some_below_yes (suc n) f i h t = elim (cases_eq i n) [
  | inl e ↦ or_left (f n) (some_below n f) (subst (λ k. f k ≡ true) e t)
  | inr ne ↦ or_right (f n) (some_below n f) (some_below_yes n f i (omega arith) t)
]

some_below_find : (n : ℕ) (f : ℕ → Bool) → some_below n f ≡ true → (i : ℕ) × (i < n) × (f i ≡ true)
some_below_find zero f t = absurd (false≢true t)
some_below_find (suc n) f t = elim (or_cases (f n) (some_below n f) t) [
  | inl here ↦ (n, omega arith, here)
  | inr later ↦ let r = some_below_find n f later in (r.0, omega arith, r.2)
]

-- entries of a table
tabulate_at : {A : Type 0} (n : ℕ) (f : ℕ → A) (d : A) (i : ℕ) → i < n → get_or (tabulate n f) i d ≡ f i
tabulate_at zero f d i h = absurd (omega arith)
tabulate_at (suc n) f d zero h = refl
tabulate_at (suc n) f d (suc i) h = tabulate_at n (λ k. f (suc k)) d i (omega arith)

tabulate_past : {A : Type 0} (n : ℕ) (f : ℕ → A) (d : A) (i : ℕ) → n ≤ i → get_or (tabulate n f) i d ≡ d
tabulate_past zero f d i h = refl
tabulate_past (suc n) f d zero h = absurd (omega arith)
tabulate_past (suc n) f d (suc i) h = tabulate_past n (λ k. f (suc k)) d i (omega arith)

square_at : (n : ℕ) (f : ℕ → ℕ → Bool) (x y : ℕ) → x < n → y < n → look (square n f) x y ≡ f x y
square_at n f x y hx hy =
    ap (λ r. get_or r y false) (tabulate_at n (λ i. tabulate n (f i)) [] x hx) ∙ tabulate_at n (f x) false y hy

-- what is marked lies in the table
square_first : (n : ℕ) (f : ℕ → ℕ → Bool) (x y : ℕ) → look (square n f) x y ≡ true → x < n
square_first n f x y t = elim (cases_lt x n) [
  | inl h ↦ h
  | inr past ↦ absurd (false≢true (sym (ap (λ r. get_or r y false) (tabulate_past n (λ i. tabulate n (f i)) [] x past)) ∙ t))
]

square_second : (n : ℕ) (f : ℕ → ℕ → Bool) (x y : ℕ) → look (square n f) x y ≡ true → y < n
square_second n f x y t = elim (cases_lt y n) [
  | inl h ↦ h
  | inr past ↦
      let row : look (square n f) x y ≡ get_or (tabulate n (f x)) y false =
      ap (λ r. get_or r y false) (tabulate_at n (λ i. tabulate n (f i)) [] x (square_first n f x y t)) in
      absurd (false≢true (sym (row ∙ tabulate_past n (f x) false y past) ∙ t))
]

-- the pixels of a neighbourhood, and its centre, lie in the tile
pub weak_inside : {g : Ground} {z y : ℕ} → Weak g z y → y < pixels g
weak_inside (first h t) = h
weak_inside (next w j h t) = h

pub centre_inside : {g : Ground} {z y : ℕ} → Weak g z y → z < pixels g
centre_inside (first h t) = h
centre_inside (next w j h t) = centre_inside w

-- the test for one step, from its parts and to them
module _ (g : Ground) (z x y : ℕ) where
  step_from : joined g.width g.joining x y ≡ true → g.near z y ≡ true → one_step g z x y ≡ true
  step_from = and_from (joined g.width g.joining x y) (g.near z y)

  step_parts : one_step g z x y ≡ true → (joined g.width g.joining x y ≡ true) × (g.near z y ≡ true)
  step_parts = and_parts (joined g.width g.joining x y) (g.near z y)

module _ (g : Ground) (z : ℕ) where
  -- the two clauses of `ways`, entry by entry
  ways_zero : (x y : ℕ) → x < pixels g → y < pixels g → look (ways g z zero) x y ≡ (eqb x y || one_step g z x y)
  unfolding ways
  ways_zero x y hx hy = square_at (pixels g) _ x y hx hy

  ways_suc : (k x y : ℕ) → x < pixels g → y < pixels g →
      look (ways g z (suc k)) x y ≡ (look (ways g z k) x y || (look (ways g z k) x k && look (ways g z k) k y))
  unfolding ways
  ways_suc k x y hx hy = square_at (pixels g) _ x y hx hy

  -- a way is a chain
  sound : (k x y : ℕ) → k ≤ pixels g → y < pixels g → Weak g z x → look (ways g z k) x y ≡ true → Weak g z y
  sound zero x y hk hy w t =
      elim (or_cases (eqb x y) (one_step g z x y) (sym (ways_zero x y (weak_inside w) hy) ∙ t)) [
        | inl same ↦ subst (Weak g z) (eqb-true x y same) w
        | inr step ↦ let parts = step_parts g z x y step in next w (joined_sound g.width g.joining x y parts.0) hy parts.1
      ]
  sound (suc k) x y hk hy w t =
      let m = look (ways g z k) in
      elim (or_cases (m x y) (m x k && m k y) (sym (ways_suc k x y (weak_inside w) hy) ∙ t)) [
        | inl straight ↦ sound k x y (omega arith) hy w straight
        | inr by-k ↦
            let parts = and_parts (m x k) (m k y) by-k in
            sound k k y (omega arith) hy (sound k x k (omega arith) (omega arith) w parts.0) parts.1
      ]

  -- what has a way still has one when more inner pixels are allowed
  stays : (k x y : ℕ) → x < pixels g → y < pixels g → look (ways g z zero) x y ≡ true → look (ways g z k) x y ≡ true
  stays zero x y hx hy t = t
  stays (suc k) x y hx hy t = ways_suc k x y hx hy ∙ or_left (look (ways g z k) x y) _ (stays k x y hx hy t)

  -- a way to an inner pixel u goes on by one step from u
  goes_on : (k x u y : ℕ) → k ≤ pixels g → x < pixels g → y < pixels g → u < k →
      look (ways g z k) x u ≡ true → one_step g z u y ≡ true → look (ways g z k) x y ≡ true
  goes_on zero x u y hk hx hy hu t s = absurd (omega arith)
  goes_on (suc k) x u y hk hx hy hu t s =
      let m = look (ways g z k) in
      let case = or_cases (m x u) (m x k && m k u) (sym (ways_suc k x u hx (omega arith)) ∙ t) in
      ways_suc k x y hx hy
      ∙ elim (cases_eq u k) [
        | inl e ↦
            let to-k : m x k ≡ true = elim case [
              | inl straight ↦ subst (λ v. m x v ≡ true) e straight
              | inr by-k ↦ (and_parts (m x k) (m k u) by-k).0
            ] in
            let step : one_step g z k y ≡ true = subst (λ v. one_step g z v y ≡ true) e s in
            let from-k : m k y ≡ true =
            stays k k y (omega arith) hy (ways_zero k y (omega arith) hy ∙ or_right (eqb k y) (one_step g z k y) step) in
            or_right (m x y) (m x k && m k y) (and_from (m x k) (m k y) to-k from-k)
        | inr ne ↦ elim case [
          | inl straight ↦ or_left (m x y) (m x k && m k y) (goes_on k x u y (omega arith) hx hy (omega arith) straight s)
          | inr by-k ↦
              let parts = and_parts (m x k) (m k u) by-k in
              or_right (m x y) (m x k && m k y)
              (and_from (m x k) (m k y) parts.0 (goes_on k k u y (omega arith) (omega arith) hy (omega arith) parts.1 s))
        ]
      ]

  -- a chain is a way
  complete : {y : ℕ} → Weak g z y → look (ways g z (pixels g)) z y ≡ true
  complete (first h t) =
      stays (pixels g) z z h h (ways_zero z z h h ∙ or_left (eqb z z) (one_step g z z z) (eq-eqb z z refl))
  complete (next {x = x} {y = y} w j h t) =
      goes_on (pixels g) z x y (le_refl (pixels g)) (centre_inside w) h (weak_inside w) (complete w)
      (step_from g z x y (joined_complete g.width g.joining x y j) t)

  starts_near : {y : ℕ} → Weak g z y → g.near z z ≡ true
  starts_near (first h t) = t
  starts_near (next w j h t) = starts_near w

module _ (g : Ground) where
  weak_entry : (z y : ℕ) → z < pixels g → y < pixels g → look (weak_table g) z y ≡ (g.near z z && look (ways g z (pixels g)) z y)
  unfolding weak_table
  weak_entry z y hz hy = square_at (pixels g) (λ z y. g.near z z && look (ways g z (pixels g)) z y) z y hz hy

  weak_within_table : (z y : ℕ) → look (weak_table g) z y ≡ true → (z < pixels g) × (y < pixels g)
  unfolding weak_table
  weak_within_table z y t =
      let f : ℕ → ℕ → Bool = λ z y. g.near z z && look (ways g z (pixels g)) z y in
      (square_first (pixels g) f z y t, square_second (pixels g) f z y t)

  weak_sound : (z y : ℕ) → look (weak_table g) z y ≡ true → Weak g z y
  weak_sound z y t =
      let within = weak_within_table z y t in
      let both = and_parts (g.near z z) (look (ways g z (pixels g)) z y) (sym (weak_entry z y within.0 within.1) ∙ t) in
      sound g z (pixels g) z y (le_refl (pixels g)) within.1 (first within.0 both.0) both.1

  weak_complete : {z y : ℕ} → Weak g z y → look (weak_table g) z y ≡ true
  weak_complete {z} {y} w =
      weak_entry z y (centre_inside w) (weak_inside w)
      ∙ and_from (g.near z z) (look (ways g z (pixels g)) z y) (starts_near g z w) (complete g z w)

  pub symmetric_sound : (x y : ℕ) → symmetric g x y ≡ true → Symmetric g x y
  unfolding symmetric symmetric_table
  symmetric_sound x y t =
      let m = look (weak_table g) in
      let f : ℕ → ℕ → Bool = λ x y. some_below (pixels g) (λ z. m z x && m z y) in
      let hx = square_first (pixels g) f x y t in
      let hy = square_second (pixels g) f x y t in
      let r = some_below_find (pixels g) (λ z. m z x && m z y) (sym (square_at (pixels g) f x y hx hy) ∙ t) in
      let both = and_parts (m r.0 x) (m r.0 y) r.2 in
      record { centre = r.0; holds_x = weak_sound r.0 x both.0; holds_y = weak_sound r.0 y both.1 }

  pub symmetric_complete : {x y : ℕ} → Symmetric g x y → symmetric g x y ≡ true
  unfolding symmetric symmetric_table
  symmetric_complete {x} {y} s =
      let m = look (weak_table g) in
      let f : ℕ → ℕ → Bool = λ x y. some_below (pixels g) (λ z. m z x && m z y) in
      let z = s.centre in
      square_at (pixels g) f x y (weak_inside s.holds_x) (weak_inside s.holds_y)
      ∙ some_below_yes (pixels g) (λ z. m z x && m z y) z (centre_inside s.holds_x)
      (and_from (m z x) (m z y) (weak_complete s.holds_x) (weak_complete s.holds_y))

  pub neighbourhoods : LawsOfNeighbourhoods g
  unfolding weak
  neighbourhoods = record {
    weak_decided = λ z y. (weak_sound z y, weak_complete);
    symmetric_decided = λ x y. (symmetric_sound x y, symmetric_complete);
  }

-- where x reaches y, y reaches x, and a pixel near itself reaches itself
pub symmetric_back : {g : Ground} {x y : ℕ} → Symmetric g x y → Symmetric g y x
symmetric_back s = record { centre = s.centre; holds_x = s.holds_y; holds_y = s.holds_x }

pub symmetric_itself : {g : Ground} → NearItself g → (x : ℕ) → x < pixels g → Symmetric g x x
symmetric_itself near x h = record { centre = x; holds_x = first h (near x h); holds_y = first h (near x h) }

-- a set that holds z and is closed under the steps near z holds the weak neighbourhood: what a finished flood shows
pub weak_within : (g : Ground) (z : ℕ) (M : ℕ → Type 0) → M z →
    ((x y : ℕ) → M x → joined g.width g.joining x y ≡ true → y < pixels g → g.near z y ≡ true → M y) →
    {y : ℕ} → Weak g z y → M y
weak_within g z M start closed (first h t) = start
weak_within g z M start closed (next {x = x} {y = y} w j h t) =
    closed x y (weak_within g z M start closed w) (joined_complete g.width g.joining x y j) h t
