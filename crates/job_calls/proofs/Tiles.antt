-- The records of a tile, read one at a time. Assumes nothing.
use Rattle.std.proofs.Common.{◌≡◌, ℕ, suc, ◌+◌, ◌<◌, ◌≤◌, Bool, true, false, cond, eqb, List, [], ◌∷◌, ◌++◌, length, get_or, take, drop, None, Ok, Err, sym, refl, ap, ◌∙◌, subst, true≢false, append-nil, arith, length-append, take-append-drop, length-take-le, drop-cons}
use lib.Seq.{take-length}
use Rattle.std.proofs.lemmas.List.{take_more}
use Rattle.std.proofs.lemmas.Bool.{ne_eqb, eqb-true, eqb-false}
use Rattle.maps.specs.Checks.{first_fault}
use Rattle.records.specs.declared.fault.ReaderFault.{ReaderFault}
use Rattle.records.specs.declared.records.Head.{Head}
use Rattle.records.specs.declared.records.Record.{Record}
use Rattle.records.specs.declared.records.Record.TheVariants as sound
use Rattle.records.specs.declared.place.Place.{Place}
use Rattle.records.specs.declared.place.Place.TheVariants as place
use Rattle.records.specs.Records.{pixels, map_bytes, grey_bytes}
use Rattle.records.specs.Reading.{head_checks, taken, place_after, among, ended}
use Rattle.records.specs.Encoding.{encoded, next_pixel, Comes, head, pixel}
use Rattle.records.proofs.Heads.{some_pixel}
use Rattle.records.proofs.Encodings.{only_may_come, only_written}
use Rattle.records.specs.Jobs.{pixel_records, tile_records, Unfinished}
use Rattle.records.specs.Jobs as jobs
use Rattle.job_calls.specs.Stops.{Bad, by_record, by_end, Stops, in_tile}
use Rattle.job_calls.specs.Calling.{takes_calls}
use Rattle.job_calls.specs.Reading.{Eight, SoFar, no_head, pixels_of}
use Rattle.job_calls.specs.Ends.{Taken}

-- one pixel more
pixels_more : (k : ℕ) (vs gs : List ℕ) (v g : ℕ) → length gs ≡ length vs →
    pixel_records k (vs ++ (v ∷ [])) (gs ++ (g ∷ [])) ≡ pixel_records k vs gs ++ (encoded (k + length vs) (sound.Pixel v g) ∷ [])
pixels_more k [] [] v g e = let same : k ≡ k + 0 = omega arith in ap (λ i. encoded i (sound.Pixel v g) ∷ []) same
pixels_more k [] (g' ∷ gs) v g e = absurd (omega arith)
pixels_more k (v' ∷ vs) [] v g e = absurd (omega arith)
pixels_more k (v' ∷ vs) (g' ∷ gs) v g e =
    let same : (k + 1) + length vs ≡ k + suc (length vs) = omega arith in
    let rest = pixels_more (k + 1) vs gs v g (omega arith) in
    ap (λ rs. encoded k (sound.Pixel v' g') ∷ rs) (rest ∙ ap (λ i. pixel_records (k + 1) vs gs ++ (encoded i (sound.Pixel v g) ∷ [])) same)

pixels_count : (k : ℕ) (vs gs : List ℕ) → length gs ≡ length vs → length (pixel_records k vs gs) ≡ length vs
pixels_count k [] [] e = refl
pixels_count k [] (g ∷ gs) e = absurd (omega arith)
pixels_count k (v ∷ vs) [] e = absurd (omega arith)
pixels_count k (v ∷ vs) (g ∷ gs) e = ap suc (pixels_count (k + 1) vs gs (omega arith))

pub tile_count : (h : Head) (vs gs : List ℕ) → length gs ≡ length vs → length (tile_records h vs gs) ≡ length vs + 1
tile_count h vs gs e = let n = pixels_count 0 vs gs e in omega arith

pub tile_more : (h : Head) (vs gs : List ℕ) (v g i : ℕ) → length vs ≡ i → length gs ≡ i →
    tile_records h (vs ++ (v ∷ [])) (gs ++ (g ∷ [])) ≡ tile_records h vs gs ++ (encoded i (sound.Pixel v g) ∷ [])
tile_more h vs gs v g i a b =
    let same : 0 + length vs ≡ i = omega arith in
    ap (λ rs. encoded 0 (sound.Head h) ∷ rs) (pixels_more 0 vs gs v g (b ∙ sym a) ∙ ap (λ k. pixel_records 0 vs gs ++ (encoded k (sound.Pixel v g) ∷ [])) same)

-- an H leads to the first pixel
head_leads : {bs : List ℕ} {h : Head} → first_fault (head_checks h) ≡ None → bs ≡ encoded 0 (sound.Head h) → SoFar [] [] (place.Pixels h 0) (bs ∷ [])
head_leads {h = h} passes w =
    let some = some_pixel h passes in
    let first : eqb 0 (pixels h) ≡ false = ne_eqb 0 (pixels h) (λ q. omega arith) in
    rw w (subst (λ b. SoFar [] [] (cond b (place.Calls h) (place.Pixels h 0)) (tile_records h [] [])) first (pixels_of h [] [] passes refl (omega arith)))

-- and a P to the next one
pixel_leads : (bs m g : List ℕ) (h : Head) (v y : ℕ) → first_fault (head_checks h) ≡ None → length g ≡ length m → length m < pixels h →
    bs ≡ encoded (length m) (sound.Pixel v y) → SoFar (m ++ (v ∷ [])) (g ++ (y ∷ [])) (among h (length m + 1)) (tile_records h m g ++ (bs ∷ []))
pixel_leads bs m g h v y passes same less w =
    let a = length-append m (v ∷ []) in
    let b = length-append g (y ∷ []) in
    let one : length (m ++ (v ∷ [])) ≡ length m + 1 = omega arith in
    let here = pixels_of h (m ++ (v ∷ [])) (g ++ (y ∷ [])) passes (omega arith) (omega arith) in
    let more = tile_more h m g v y (length m) refl same ∙ ap (λ x. tile_records h m g ++ (x ∷ [])) (sym w) in
    subst (λ k. SoFar (m ++ (v ∷ [])) (g ++ (y ∷ [])) (among h k) (tile_records h m g ++ (bs ∷ []))) one (subst (SoFar (m ++ (v ∷ [])) (g ++ (y ∷ [])) (among h (length (m ++ (v ∷ []))))) more here)

-- what is read of a tile that is not whole
pub not_whole : {m g : List ℕ} {p : Place} {front : List (List ℕ)} → SoFar m g p front → takes_calls p ≡ false → Unfinished p front
not_whole no_head more = jobs.no_head
not_whole (pixels_of h m g passes same le) more = at (eqb (length m) (pixels h)) refl more
  where
    at : (b : Bool) → eqb (length m) (pixels h) ≡ b → takes_calls (cond b (place.Calls h) (place.Pixels h (length m))) ≡ false →
        Unfinished (cond b (place.Calls h) (place.Pixels h (length m))) (tile_records h m g)
    at true e more = absurd (true≢false more)
    at false e more = let ne = eqb-false (length m) (pixels h) e in jobs.some_pixels h m g passes same (omega arith)

-- and of one that is
pub whole : {m g : List ℕ} {p : Place} {front : List (List ℕ)} (records : List (List ℕ)) (n : ℕ) (h : Head) → SoFar m g p front → p ≡ place.Calls h →
    n ≤ length records → take n records ≡ front → Taken records n h m g
whole records n h no_head e fits f = absurd cc
whole records n h (pixels_of k m g passes same le) e fits f = at (eqb (length m) (pixels k)) refl e
  where
    at : (b : Bool) → eqb (length m) (pixels k) ≡ b → cond b (place.Calls k) (place.Pixels k (length m)) ≡ place.Calls h → Taken records n h m g
    at true q e =
        let all = eqb-true (length m) (pixels k) q in
        let head : k ≡ h = cc in
        let count = ap length (sym f) ∙ length-take-le n records fits in
        let known = tile_count k m g same in
        subst (λ x. Taken records n x m g) head (record {
          tile = record { passes = passes; map_count = all; grey_count = same ∙ all };
          number = omega arith;
          within = fits;
          front = f;
        })
    at false q e = absurd cc

-- a record of a tile that is not whole leads on
leads : {bs m g : List ℕ} {p : Place} {front : List (List ℕ)} {r : Record} (n : ℕ) → SoFar m g p front → takes_calls p ≡ false → Eight bs → taken n p bs ≡ Ok r →
    SoFar (m ++ map_bytes r) (g ++ grey_bytes r) (place_after (Ok r) p) (front ++ (bs ∷ []))
leads {bs} {r = r} n no_head more eight e =
    at (only_may_come n place.Head bs r e) (only_written n place.Head bs r eight.count eight.low e)
  where
    at : {r : Record} → Comes place.Head r → bs ≡ encoded 0 r → SoFar (map_bytes r) (grey_bytes r) (place_after (Ok r) place.Head) (bs ∷ [])
    at (head passes) w = head_leads passes w
leads {bs} {r = r} n (pixels_of h m g passes same le) more eight e =
    at (eqb (length m) (pixels h)) refl more (only_may_come n (among h (length m)) bs r e) (only_written n (among h (length m)) bs r eight.count eight.low e)
  where
    at : (b : Bool) → eqb (length m) (pixels h) ≡ b → takes_calls (cond b (place.Calls h) (place.Pixels h (length m))) ≡ false →
        Comes (cond b (place.Calls h) (place.Pixels h (length m))) r → bs ≡ encoded (next_pixel (cond b (place.Calls h) (place.Pixels h (length m)))) r →
        SoFar (m ++ map_bytes r) (g ++ grey_bytes r) (place_after (Ok r) (cond b (place.Calls h) (place.Pixels h (length m)))) (tile_records h m g ++ (bs ∷ []))
    at true q more c w = absurd (true≢false more)
    at false q more c w = let ne = eqb-false (length m) (pixels h) q in among_pixels c w (omega arith)
      where
        among_pixels : {r : Record} → Comes (place.Pixels h (length m)) r → bs ≡ encoded (length m) r → length m < pixels h →
            SoFar (m ++ map_bytes r) (g ++ grey_bytes r) (place_after (Ok r) (place.Pixels h (length m))) (tile_records h m g ++ (bs ∷ []))
        among_pixels (pixel {v = v} {g = y}) w less = pixel_leads bs m g h v y passes same less w

-- a reader that has not come to the calls does not take them
pub before_calls : (p : Place) → ((h : Head) → p ≡ place.Calls h → ⊥) → takes_calls p ≡ false
before_calls place.Head not = refl
before_calls (place.Pixels h next) not = refl
before_calls (place.Calls h) not = absurd (not h refl)

module _ {m g : List ℕ} {p : Place} (records : List (List ℕ)) (n : ℕ) (s : SoFar m g p (take n records)) (more : takes_calls p ≡ false) where
  -- a record that was taken leads on
  pub goes_on : {m' g' : List ℕ} {p' : Place} {r : Record} → n < length records → Eight (get_or records n []) → taken n p (get_or records n []) ≡ Ok r →
      p' ≡ place_after (Ok r) p → m' ≡ m ++ map_bytes r → g' ≡ g ++ grey_bytes r → SoFar m' g' p' (take (n + 1) records)
  goes_on lt eight e q a b = rw (q, a, b, take_more records n [] lt) (leads n s more eight e)

  -- one that was not ends the reading
  pub bad_record : (left : ℕ) {f : ReaderFault} → n < length records → taken n p (get_or records n []) ≡ Err f → Stops records left None f
  bad_record left {f} lt e =
      let count = length-take-le n records (omega arith) in
      in_tile (not_whole s more) (subst (λ k. Bad k p (get_or records n [] ∷ drop (suc n) records) left f) (sym count) (by_record e))
      (sym (take-append-drop n records) ∙ ap (λ rs. take n records ++ rs) (drop-cons records n [] lt))

  -- and so does the end of the job
  pub bad_end : (left : ℕ) {f : ReaderFault} → n ≡ length records → ended (length records) left p ≡ Err f → Stops records left None f
  bad_end left {f} all e =
      let count = length-take-le n records (omega arith) in
      in_tile (not_whole s more) (subst (λ k. Bad k p [] left f) (sym (count ∙ all)) (by_end e))
      (sym (append-nil (take n records) ∙ ap (λ k. take k records) all ∙ take-length records))
