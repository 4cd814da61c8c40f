-- Visits of a pixel's neighbours, one after another. Assumes nothing.
use Rattle.std.proofs.Common.{◌≡◌, ℕ, ◌+◌, ◌*◌, ◌<◌, ◌≤◌, Bool, List, [], ◌∷◌, map, length, get_or, drop, Some, None, Option, sym, refl, ap, ◌∙◌, subst, ap₂}
use Rattle.std.proofs.lemmas.List.{at_drop_more, at_drop_all}
use Rattle.neighbourhoods.specs.declared.steps.Step.{Step}
use Rattle.neighbourhoods.specs.declared.place.Place.{Place}
use Rattle.neighbourhoods.specs.Steps.{steps_of, place_of, led, neighbours}
use Rattle.neighbourhoods.specs.Finds.{Finds, visited, visit_each, Room}
use Rattle.neighbourhoods.proofs.Rooms.{room_visited}

-- tests that agree take in the same pixels
pub visit_each_same : (near near' : ℕ → Bool) → ((p : ℕ) → near p ≡ near' p) → (ps : List (Option ℕ)) (f : Finds) →
    visit_each near ps f ≡ visit_each near' ps f
visit_each_same near near' same [] f = refl
visit_each_same near near' same (None ∷ ps) f = visit_each_same near near' same ps f
visit_each_same near near' same (Some p ∷ ps) f =
    ap (λ b. visit_each near ps (visited b p f)) (same p) ∙ visit_each_same near near' same ps (visited (near' p) p f)

module _ (near : ℕ → Bool) (w h j p : ℕ) (start : Finds) where
  -- where the steps from the i-th on lead
  pub from_step : ℕ → List (Option ℕ)
  from_step i = map (λ s. led w h s (place_of w p)) (drop i (steps_of j))

  -- the visits from the i-th step on bring what all bring
  pub record Expanding (i : ℕ) (f : Finds) : Type 0 where
    pub room : Room (w * h) f
    pub same : visit_each near (from_step i) f ≡ visit_each near (neighbours w h j p) start

  pub before_steps : Room (w * h) start → Expanding 0 start
  unfolding from_step
  before_steps room = record { room = room; same = refl }

  -- the steps and the place that code has in hand
  module _ {ss : List Step} {at : Place} (steps-are : ss ≡ steps_of j) (place_is : at ≡ place_of w p)
      {i : ℕ} {f : Finds} (e : Expanding i f) where
    module _ (s : Step) (early : i < length ss) where
      is_listed : i < length (steps_of j)
      is_listed = subst (λ xs. i < length xs) steps-are early

      leads : led w h (get_or ss i s) at ≡ led w h (get_or (steps_of j) i s) (place_of w p)
      leads = ap₂ (λ xs o. led w h (get_or xs i s) o) steps-are place_is

      rest : {o : Option ℕ} → o ≡ led w h (get_or ss i s) at →
          visit_each near (o ∷ from_step (i + 1)) f ≡ visit_each near (neighbours w h j p) start
      unfolding from_step
      rest there =
          ap (λ x. visit_each near (x ∷ from_step (i + 1)) f) (there ∙ leads)
          ∙ sym (at_drop_more (λ xs. visit_each near (map (λ t. led w h t (place_of w p)) xs) f) (steps_of j) i s is_listed)
          ∙ e.same

      -- a step past the edge
      pub no_pixel : None ≡ led w h (get_or ss i s) at → Expanding (i + 1) f
      no_pixel past = record { room = e.room; same = rest past }

      -- a step that leads to pixel q
      pub to_pixel : {q : ℕ} → Some q ≡ led w h (get_or ss i s) at → q < w * h →
          {b : Bool} → near q ≡ b → {f' : Finds} → f' ≡ visited b q f → Expanding (i + 1) f'
      to_pixel {q} there inside is-near visit =
          subst (Expanding (i + 1)) (ap (λ x. visited x q f) is-near ∙ sym visit)
          (record { room = room_visited e.room q inside (near q); same = rest there })

    pub after_steps : length ss ≤ i → f ≡ visit_each near (neighbours w h j p) start
    unfolding from_step
    after_steps late =
        let past : length (steps_of j) ≤ i = subst (λ xs. length xs ≤ i) steps-are late in
        sym (at_drop_all (λ xs. visit_each near (map (λ t. led w h t (place_of w p)) xs) f) (steps_of j) i past) ∙ e.same
