-- Which pictures are seated. Assumes nothing.
use Rattle.std.proofs.Common.{◌≡◌, ℕ, ◌*◌, ◌<◌, eqb, List, [], ◌∷◌, Some, None, Ok, Err, Option, Result, refl, ap, ◌∙◌, subst, mul-pos, arith}
use Rattle.std.proofs.lemmas.Bool.{eq-eqb, eqb-true, lt-ltb}
use Rattle.std.specs.Result.{result_err, MatchResult, IsErrAnd}
use Rattle.criteria.specs.Criteria.{Judgement}
use Rattle.criteria.specs.declared.fault.MapFault.TheVariants.{Inadmissible}
use Rattle.maps.specs.declared.map.Map.{Map}
use Rattle.maps.specs.Checks.{first_fault}
use Rattle.maps.specs.Windows.{Window, window, window_of, pixels_of}
use Rattle.maps.specs.Admission.{FirstNot, first_not, none_check, inadmissible, admission_check}
use Rattle.maps.specs.Tiles.{is_tile, is_joining, map_checks}
use Rattle.maps.proofs.Figures.{tile_of}
use Rattle.maps.proofs.Firsts.{first_not_is}
use Rattle.bench.specs.declared.bench.Bench.{Bench}
use Rattle.bench.specs.declared.fault.BenchFault.{BenchFault}
use Rattle.bench.specs.declared.fault.BenchFault.TheVariants as fault
use Rattle.bench.specs.Checks.{seat_checks, from_map, picture_fits, some_pixel}
use Rattle.bench.proofs.Passing.{left_out}
use Rattle.records.specs.declared.fault.ReaderFault.{ReaderFault}
use Rattle.records.specs.declared.fault.ReaderFault.TheVariants as reader
use Rattle.maps.proofs.Answering.{first_passes}
use Rattle.job_calls.specs.Calling.{RefusedAt}

-- the fault of a first value that is not admitted
abbrev found : Option ℕ → Option BenchFault
found None = None
found (Some i) = Some (fault.Map (Inadmissible i))

found_is : (o : Option ℕ) → first_fault (from_map (none_check o) ∷ []) ≡ found o
found_is None = refl
found_is (Some i) = refl

none_found : (o : Option ℕ) → None ≡ found o → o ≡ None
none_found None e = refl
none_found (Some i) e = absurd cc

-- a map that can be made has a value for each of its pixels
pub map_passes : (w h t n : ℕ) → first_fault (map_checks w h t n) ≡ None → (0 < w * h) × (n ≡ w * h)
map_passes w h t n e =
    let a = first_passes (is_tile w h) _ _ e in
    let b = first_passes (is_joining t) _ _ a.1 in
    let c = first_passes (eqb n (w * h)) _ _ b.1 in
    let tile = tile_of w h a.0 in
    (mul-pos tile.some_width tile.some_height, eqb-true n (w * h) c.0)

module _ (j : Judgement ℕ) (map : Map ℕ) (values : List ℕ) (w h t : ℕ) (shows : window_of map ≡ window values w h t) (some : 0 < w * h) (count : ℕ) (fits : count ≡ w * h) where
  area : pixels_of map ≡ w * h
  area = ap (λ (v : Window ℕ). v.width * v.height) shows

  first : inadmissible j map ≡ first_not j.admits values
  first = ap (λ (v : Window ℕ). first_not j.admits v.values) shows

  -- where the picture fits, only a value that is not admitted is at fault
  checks : first_fault (seat_checks j map count) ≡ found (first_not j.admits values)
  checks =
      let admission = from_map (admission_check j map) in
      let positive : 0 < pixels_of map = omega (arith, area) in
      let equal : count ≡ pixels_of map = omega (arith, area) in
      left_out [] (some_pixel map) (picture_fits map count ∷ admission ∷ []) (lt-ltb 0 (pixels_of map) positive)
      ∙ left_out [] (picture_fits map count) (admission ∷ []) (eq-eqb count (pixels_of map) equal)
      ∙ found_is (inadmissible j map)
      ∙ ap found first

  -- a seated picture lies on admitted values, and a refusal says which value is not
  pub admission : (r : Result Bench BenchFault) (q : Result Bench ReaderFault) (n : ℕ) → result_err r ≡ first_fault (seat_checks j map count) →
      MatchResult r (λ b. q ≡ Ok b) (λ f. IsErrAnd q (λ g. g ≡ reader.Bench f n)) →
      MatchResult q (λ _. FirstNot j.admits values None) (RefusedAt n (λ i. FirstNot j.admits values (Some i)))
  admission (Ok c) (Ok b) n e m = subst (FirstNot j.admits values) (none_found (first_not j.admits values) (e ∙ checks)) (first_not_is j.admits values)
  admission (Ok c) (Err f) n e m = absurd cc
  admission (Err g) (Ok b) n e m = absurd m
  admission (Err g) (Err f) n e m = at (first_not j.admits values) refl (e ∙ checks)
    where
      at : (o : Option ℕ) → first_not j.admits values ≡ o → Some g ≡ found o → RefusedAt n (λ i. FirstNot j.admits values (Some i)) f
      at None p s = absurd cc
      at (Some i) p s =
          let which : g ≡ fault.Map (Inadmissible i) = cc in
          record {
            pixel = i;
            found = subst (FirstNot j.admits values) p (first_not_is j.admits values);
            is = m ∙ ap (λ x. reader.Bench x n) which;
          }
