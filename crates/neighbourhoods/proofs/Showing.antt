-- Neighbourhoods drawn on a sheet from what floods list. Assumes nothing.
use Rattle.std.proofs.Common.{◌≡◌, ℕ, ◌+◌, ◌<◌, ◌≤◌, List, length, get_or, take, sym, subst, inl, inr, arith}
use Rattle.std.proofs.lemmas.Bool.{cases_eq}
use Rattle.morphology.specs.Neighbourhoods.{Ground, pixels, Weak, Symmetric}
use Rattle.morphology.specs.Tables.{weak, symmetric}
use Rattle.morphology.proofs.Values.{at_getD}
use Rattle.morphology.proofs.Tables.{weak_inside, centre_inside, neighbourhoods}
use Rattle.neighbourhoods.specs.Zeros.{zeros}
use Rattle.neighbourhoods.specs.Marks.{Clear}
use Rattle.neighbourhoods.specs.Listings.{In}
use Rattle.neighbourhoods.specs.Floods.{Flooded}
use Rattle.neighbourhoods.specs.Sheets.{drawn, weak_sheet, symmetric_sheet}
use Rattle.neighbourhoods.proofs.Marking.{zeros_clear}
use Rattle.neighbourhoods.proofs.Drawing.{Shows, shows_none, shows_more, shows_same, shows_test}

pub cleared : {marks : List ℕ} (bytes n : ℕ) → marks ≡ zeros bytes → Clear n marks
cleared bytes n e = subst (Clear n) (sym e) (zeros_clear bytes n)

-- pixel y stands in the weak neighbourhood of some centre below k, and x with it
pub record Held (g : Ground) (x k y : ℕ) : Type 0 where
  pub centre : ℕ
  pub early : centre < k
  pub holds_x : Weak g centre x
  pub holds_y : Weak g centre y

-- the pixels that a flood lists lie in the tile
pub listed_inside : {g : Ground} {z : ℕ} {marks queue queue' : List ℕ} {count : ℕ} → Flooded g z marks queue queue' count →
    (i : ℕ) → i < length (take count queue') → get_or (take count queue') i 0 < pixels g
listed_inside {queue' = queue'} {count = count} f i early =
    weak_inside (f.listed_among_free.sound (at_getD (take count queue') i 0 early))

module _ {g : Ground} {z : ℕ} {marks queue queue' : List ℕ} {count : ℕ} (f : Flooded g z marks queue queue' count) (clear : Clear (pixels g) marks) where
  -- one flood on a clean sheet
  pub weak_shown : drawn (zeros (pixels g)) (take count queue') ≡ weak_sheet g z
  weak_shown =
      let none = shows_none (pixels g) (λ y. ⊥) (λ y b. b) in
      let shown = shows_more none (f.listed clear) (λ y w. weak_inside w) (λ y b. absurd b) (λ y w. w) (λ y w. inr w) in
      shows_test (weak g z) shown ((neighbourhoods g).weak_decided z)

  module _ {x : ℕ} {sheet : List ℕ} (s : Shows (pixels g) (Held g x z) sheet) where
    -- a flood that holds x is drawn
    pub flood_drawn : In (take count queue') x → Shows (pixels g) (Held g x (z + 1)) (drawn sheet (take count queue'))
    flood_drawn i =
        let with-x = (f.listed clear).sound i.1 in
        shows_more s (f.listed clear) (λ y w. weak_inside w)
        (λ y h. record { centre = h.centre; early = let k = h.early in omega arith; holds_x = h.holds_x; holds_y = h.holds_y })
        (λ y w. record { centre = z; early = omega arith; holds_x = with-x; holds_y = w })
        (λ y h. elim (cases_eq h.centre z) [
          | inl e ↦ inr (subst (λ c. Weak g c y) e h.holds_y)
          | inr ne ↦ let k = h.early in inl (record { centre = h.centre; early = omega arith; holds_x = h.holds_x; holds_y = h.holds_y })
        ])

    -- a flood that does not hold x is passed over
    pub flood_passed : (In (take count queue') x → ⊥) → Shows (pixels g) (Held g x (z + 1)) sheet
    flood_passed out =
        shows_same s
        (λ y h. record { centre = h.centre; early = let k = h.early in omega arith; holds_x = h.holds_x; holds_y = h.holds_y })
        (λ y h. elim (cases_eq h.centre z) [
          | inl e ↦ absurd (out ((f.listed clear).complete (subst (λ c. Weak g c x) e h.holds_x)))
          | inr ne ↦ let k = h.early in record { centre = h.centre; early = omega arith; holds_x = h.holds_x; holds_y = h.holds_y }
        ])

-- after the last
pub all_held : (g : Ground) (x k : ℕ) {sheet : List ℕ} → pixels g ≤ k → Shows (pixels g) (Held g x k) sheet → sheet ≡ symmetric_sheet g x
all_held g x k past s =
    let shown = shows_same {N = Symmetric g x} s
    (λ y h. record { centre = h.centre; holds_x = h.holds_x; holds_y = h.holds_y })
    (λ y h. let inside = centre_inside h.holds_x in record { centre = h.centre; early = omega arith; holds_x = h.holds_x; holds_y = h.holds_y }) in
    shows_test (symmetric g x) shown ((neighbourhoods g).symmetric_decided x)
