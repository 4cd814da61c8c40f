-- What a sound job prints. Assumes nothing.
use Rattle.std.proofs.Common.{◌≡◌, ℕ, suc, ◌+◌, ◌<◌, Bool, true, false, cond, eqb, List, [], ◌∷◌, ◌++◌, length, None, Ok, sym, refl, ap, ◌∙◌, true≢false, append-nil, arith, length-append}
use lib.Seq.{append_snoc}
use Rattle.std.proofs.lemmas.Bool.{eq-eqb, ne_eqb}
use Rattle.maps.specs.Admission.{first_not}
use Rattle.maps.proofs.Firsts.{first_not_only}
use Rattle.morphology.specs.Calls.{Call}
use Rattle.records.specs.declared.records.Head.{Head}
use Rattle.records.specs.declared.records.Record.{Record}
use Rattle.records.specs.declared.records.Record.TheVariants as sound
use Rattle.records.specs.declared.place.Place.{Place}
use Rattle.records.specs.declared.place.Place.TheVariants as place
use Rattle.records.specs.Records.{pixels}
use Rattle.records.specs.Reading.{taken, judged}
use Rattle.records.specs.Encoding.{encoded, head, pixel, call}
use Rattle.records.specs.Jobs.{Job, Sound, pixel_records, call_records, records_of, left_over, job_bytes}
use Rattle.records.proofs.Checking.{passes_here}
use Rattle.records.proofs.Encodings.{reads_back}
use Rattle.records.proofs.Heads.{some_pixel}
use Rattle.records.proofs.Cuts.{job_cut}
use Rattle.job.specs.Reading.{Progress, progress_after, lay_checks, laid, outcome, read_on, fresh}
use Rattle.job.specs.Texts.{reading_text, job_text}
use Rattle.job.specs.Jobs.{job_lines}

-- a sound record leads on
sound_step : (n : ℕ) (bs : List ℕ) (rest : List (List ℕ)) (left : ℕ) (s : Progress) (r : Record) →
    taken n s.place bs ≡ Ok r → outcome n (Ok r) (progress_after (Ok r) s) ≡ None →
    read_on n (bs ∷ rest) left s ≡ read_on (n + 1) rest left (progress_after (Ok r) s)
sound_step n bs rest left s r e o = rw (e, o) refl

-- what the reader has at this place
abbrev at_place : Place → List ℕ → List ℕ → ℕ → Progress
at_place p map picture k = record { place = p; map = map; picture = picture; calls = k }

module _ (h : Head) (left : ℕ) where
  -- a P that is the last or not: if it is, all values are admitted
  pixel_read : (n v g : ℕ) (map picture : List ℕ) (more : List (List ℕ)) (b : Bool) → eqb (length map + 1) (pixels h) ≡ b →
      (b ≡ true → first_not (judged h).admits (map ++ (v ∷ [])) ≡ None) →
      read_on n (encoded (length map) (sound.Pixel v g) ∷ more) left (at_place (place.Pixels h (length map)) map picture 0)
      ≡ read_on (n + 1) more left (at_place (cond b (place.Calls h) (place.Pixels h (length map + 1))) (map ++ (v ∷ [])) (picture ++ (g ∷ [])) 0)
  pixel_read n v g map picture more b e admitted =
      let s = at_place (place.Pixels h (length map)) map picture 0 in
      let r = sound.Pixel v g in
      sound_step n (encoded (length map) r) more left s r (reads_back n s.place r pixel)
      (ap (λ c. laid n (cond c (place.Calls h) (place.Pixels h (length map + 1))) (map ++ (v ∷ []))) e ∙ fine b admitted)
      ∙ ap (λ c. read_on (n + 1) more left (at_place (cond c (place.Calls h) (place.Pixels h (length map + 1))) (map ++ (v ∷ [])) (picture ++ (g ∷ [])) 0)) e
    where
      fine : (b : Bool) → (b ≡ true → first_not (judged h).admits (map ++ (v ∷ [])) ≡ None) →
          laid n (cond b (place.Calls h) (place.Pixels h (length map + 1))) (map ++ (v ∷ [])) ≡ None
      fine true admitted = passes_here n (lay_checks (judged h).admits (map ++ (v ∷ []))) (rw (admitted refl) refl)
      fine false admitted = refl

  -- the pixels that are left to read, after those in front
  pixels_read : (vs gs map picture : List ℕ) (n i : ℕ) (rest : List (List ℕ)) → length map ≡ i → length gs ≡ length vs → i + length vs ≡ pixels h → 0 < length vs →
      first_not (judged h).admits (map ++ vs) ≡ None →
      read_on n (pixel_records i vs gs ++ rest) left (at_place (place.Pixels h i) map picture 0)
      ≡ read_on (n + length vs) rest left (at_place (place.Calls h) (map ++ vs) (picture ++ gs) 0)
  pixels_read [] gs map picture n i rest a b c some none = absurd (omega arith)
  pixels_read (v ∷ vs) [] map picture n i rest a b c some none = absurd (omega arith)
  pixels_read (v ∷ []) (g ∷ []) map picture n i rest a b c some none =
      let last = eq-eqb (length map + 1) (pixels h) (omega arith) in
      ap (λ k. read_on n (encoded k (sound.Pixel v g) ∷ rest) left (at_place (place.Pixels h k) map picture 0)) (sym a)
      ∙ pixel_read n v g map picture rest true last (λ _. none)
  pixels_read (v ∷ []) (g ∷ g' ∷ gs) map picture n i rest a b c some none = absurd (omega arith)
  pixels_read (v ∷ v' ∷ vs) (g ∷ []) map picture n i rest a b c some none = absurd (omega arith)
  pixels_read (v ∷ v' ∷ vs) (g ∷ g' ∷ gs) map picture n i rest a b c some none =
      let more = pixel_records (i + 1) (v' ∷ vs) (g' ∷ gs) ++ rest in
      let on = ne_eqb (length map + 1) (pixels h) (λ q. omega arith) in
      let longer = length-append map (v ∷ []) in
      let number : (n + 1) + suc (length vs) ≡ n + suc (suc (length vs)) = omega arith in
      ap (λ k. read_on n (encoded k (sound.Pixel v g) ∷ more) left (at_place (place.Pixels h k) map picture 0)) (sym a)
      ∙ pixel_read n v g map picture more false on (λ q. absurd (true≢false (sym q)))
      ∙ ap (λ k. read_on (n + 1) more left (at_place (place.Pixels h (k + 1)) (map ++ (v ∷ [])) (picture ++ (g ∷ [])) 0)) a
      ∙ pixels_read (v' ∷ vs) (g' ∷ gs) (map ++ (v ∷ [])) (picture ++ (g ∷ [])) (n + 1) (i + 1) rest (omega arith) (omega arith) (omega arith) (omega arith) (ap (first_not (judged h).admits) (append_snoc map v (v' ∷ vs)) ∙ none)
      ∙ ap (λ k. read_on k rest left (at_place (place.Calls h) ((map ++ (v ∷ [])) ++ (v' ∷ vs)) ((picture ++ (g ∷ [])) ++ (g' ∷ gs)) 0)) number
      ∙ ap (λ xs. read_on (n + suc (suc (length vs))) rest left (at_place (place.Calls h) xs ((picture ++ (g ∷ [])) ++ (g' ∷ gs)) 0)) (append_snoc map v (v' ∷ vs))
      ∙ ap (λ xs. read_on (n + suc (suc (length vs))) rest left (at_place (place.Calls h) (map ++ (v ∷ v' ∷ vs)) xs 0)) (append_snoc picture g (g' ∷ gs))

-- the calls
calls_read : (h : Head) (k n : ℕ) (map picture : List ℕ) (cs : List Call) →
    read_on n (call_records cs) 0 (at_place (place.Calls h) map picture k) ≡ record { end = Ok h; left = at_place (place.Calls h) map picture (k + length cs) }
calls_read h k n map picture [] =
    let same : k ≡ k + 0 = omega arith in ap (λ m. record { end = Ok h; left = at_place (place.Calls h) map picture m }) same
calls_read h k n map picture (c ∷ cs) =
    let s = at_place (place.Calls h) map picture k in
    let r = sound.Call c.operation c.size in
    let same : (k + 1) + length cs ≡ k + suc (length cs) = omega arith in
    sound_step n (encoded 0 r) (call_records cs) 0 s r (reads_back n s.place r call) refl
    ∙ ap (λ xs. read_on (n + 1) (call_records cs) 0 (at_place (place.Calls h) xs (picture ++ []) (k + 1))) (append-nil map)
    ∙ ap (λ xs. read_on (n + 1) (call_records cs) 0 (at_place (place.Calls h) map xs (k + 1))) (append-nil picture)
    ∙ calls_read h (k + 1) (n + 1) map picture cs
    ∙ ap (λ m. record { end = Ok h; left = at_place (place.Calls h) map picture m }) same

pub jobs_print : (j : Job) → Sound j → job_text (job_bytes j) ≡ job_lines j
jobs_print j s =
    let h = j.head in
    let t = s.tile in
    let cut = job_cut j in
    let calls = call_records j.calls in
    let some = some_pixel h t.passes in
    let begun = sound_step 0 (encoded 0 (sound.Head h)) (pixel_records 0 j.map j.grey ++ calls) 0 fresh (sound.Head h) (reads_back 0 place.Head (sound.Head h) (head t.passes)) refl in
    let tile = pixels_read h 0 j.map j.grey [] [] 1 0 calls refl (t.grey_count ∙ sym t.map_count) (omega (arith, t.map_count)) (omega (arith, t.map_count)) (sym (first_not_only _ s.admitted)) in
    let end = calls_read h 0 (1 + length j.map) j.map j.grey j.calls in
    let same : 0 + length j.calls ≡ length j.calls = omega arith in
    ap reading_text
    (ap (λ rs. read_on 0 rs (left_over (job_bytes j)) fresh) cut.0
    ∙ ap (λ k. read_on 0 (records_of j) k fresh) cut.1
    ∙ begun ∙ tile ∙ end
    ∙ ap (λ k. record { end = Ok h; left = at_place (place.Calls h) j.map j.grey k }) same)
