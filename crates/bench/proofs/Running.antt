-- Any list of calls on a seated picture does what its tally says. Assumes nothing.
use Rattle.std.proofs.Common.{◌≡◌, ℕ, zero, suc, ◌+◌, true, not, List, [], ◌∷◌, ◌++◌, length, is_some, Some, None, Ok, Err, Option, sym, refl, ap, ◌∙◌, subst, subst₂, arith, eq-eqb}
use Rattle.scales.specs.Scales.{Grading, Lattice}
use Rattle.maps.specs.Checks.{first_fault, answered, left_by}
use Rattle.maps.specs.Windows.{pixels_of}
use Rattle.maps.specs.Admission.{inadmissible, admission_check}
use Rattle.morphology.specs.declared.calls.Levels.{Levels}
use Rattle.morphology.specs.declared.calls.Operation.{Operation}
use Rattle.morphology.specs.declared.calls.Operation.TheVariants.{Dilate, Erode, Open, Close}
use Rattle.morphology.specs.Algebra.{times}
use Rattle.morphology.specs.Neighbourhoods.{Ground}
use Rattle.morphology.specs.Pictures.{dilation, erosion}
use Rattle.morphology.specs.Calls.{Call, run}
use Rattle.morphology.specs.Levels.{at_zero, moved, levels_after}
use Rattle.morphology.specs.Theorems.{LawsOfLevels}
use Rattle.morphology.proofs.Operators.{operator_length, adjoint}
use Rattle.morphology.proofs.Runs.{laws_of_runs, laws_of_openings}
use Rattle.morphology.proofs.Levelling.{levels}
use Rattle.bench.specs.declared.bench.Bench.{Bench}
use Rattle.bench.specs.declared.fault.BenchFault.{BenchFault}
use Rattle.bench.specs.Settings.{Setting, ground_of, Standing, standing, Asked}
use Rattle.bench.specs.Checks.{from_map, picture_fits, matches, scratch_checks, level_checks, filter_checks}
use Rattle.operators.specs.Operations.{operated}
use Rattle.bench.specs.Calls.{Answer, Filtered, Run, no_call, one_more}
use Rattle.bench.specs.Tallies as tallies
use Rattle.bench.specs.Tallies.{Tally, empty, counted, tally_checks, Tallied, accepts, refuses, LawsOfTally}
use Rattle.bench.specs.Laws.{Between, OfKinds, Lawful}
use Rattle.bench.proofs.Passing.{left_out}

-- the operators keep a picture's size
times_length : {S : Type 0} (F : List S → List S) → ((f : List S) → length (F f) ≡ length f) →
    (k : ℕ) (f : List S) → length (times k F f) ≡ length f
times_length F keeps zero f = refl
times_length F keeps (suc k) f = keeps (times k F f) ∙ times_length F keeps k f

module _ {S : Type 0} (scale : Grading S) (g : Ground) where
  raised_length : (k : ℕ) (f : List S) → length (times k (dilation scale g) f) ≡ length f
  raised_length = times_length (dilation scale g) (operator_length scale.join g)

  lowered_length : (k : ℕ) (f : List S) → length (times k (erosion scale g) f) ≡ length f
  lowered_length = times_length (erosion scale g) (operator_length scale.meet g)

  operated_length : (o : Operation) (p : ℕ) (f : List S) → length (operated scale g o p f) ≡ length f
  operated_length Dilate p f = raised_length p f
  operated_length Erode p f = lowered_length p f
  operated_length Open p f = raised_length p (times p (erosion scale g) f) ∙ lowered_length p f
  operated_length Close p f = lowered_length p (times p (dilation scale g) f) ∙ raised_length p f

left_length : {S : Type 0} (r : Answer) (p q : List S) → length p ≡ length q → length (left_by r p q) ≡ length q
left_length (Ok z) p q e = e
left_length (Err f) p q e = refl

-- the map is the bench's, and the picture has a value for each pixel
pub record Fits {V S : Type 0} (s : Setting V S) (at : Standing S) : Type 0 where
  pub tile_fits : matches s.map at.bench.tile ≡ true
  pub count_fits : length at.picture ≡ pixels_of s.map

-- a bench and a tally at the same figures
pub record Alike (b : Bench) (t : Tally) : Type 0 where
  pub levels_are : b.book.levels ≡ t.levels
  pub count_is : b.book.count ≡ t.count

-- a list of calls as a tally from t on tells it
record Told {V S : Type 0} (s : Setting V S) (asked : List Asked) (answers : List Answer) (t : Tally) (p : List S) (after : Standing S) : Type 0 where
  accepted : List Call
  tally : Tally
  tallied : Tallied (pixels_of s.map) asked t answers accepted tally
  alike : Alike after.bench tally
  picture_is : after.picture ≡ run (dilation s.scale (ground_of s)) (erosion s.scale (ground_of s)) accepted p

module _ {V S : Type 0} (s : Setting V S) where
  -- on the seated map only scratch, size, level and book can be at fault
  checks_left : inadmissible s.judgement s.map ≡ None → (a : Asked) {at : Standing S} {t : Tally} → Fits s at → Alike at.bench t →
      first_fault (filter_checks s a at) ≡ first_fault (tally_checks (pixels_of s.map) a t)
  checks_left admits a {at} {t} fits alike =
      let n = pixels_of s.map in
      let scratch = scratch_checks n a.room in
      let admission = from_map (admission_check s.judgement s.map) in
      let later = level_checks a.call at.bench.book.levels.present at.bench.book.count in
      let rest = scratch ++ (admission ∷ later) in
      let picture = picture_fits s.map (length at.picture) in
      left_out [] _ (picture ∷ rest) fits.tile_fits
      ∙ left_out [] picture rest (eq-eqb (length at.picture) n fits.count_fits)
      ∙ left_out scratch admission later (ap (λ o. not (is_some o)) admits)
      ∙ ap (λ (l : Levels). first_fault (scratch ++ level_checks a.call l.present at.bench.book.count)) alike.levels_are
      ∙ ap (λ k. first_fault (scratch ++ level_checks a.call t.levels.present k)) alike.count_is

  fits_on : {a : Asked} {r : Answer} {before after : Standing S} → Filtered s a before r after → Fits s before → Fits s after
  fits_on {a} {r} {before} F fits = record {
    tile_fits = ap (matches s.map) F.tile_stays ∙ fits.tile_fits;
    count_fits =
        ap length F.picture_is
        ∙ left_length r _ before.picture (operated_length s.scale (ground_of s) a.call.operation a.call.size before.picture)
        ∙ fits.count_fits;
  }

  -- one call, whose answer is that of the tally's checks, and what the tally tells of the calls after it
  module _ {a : Asked} {r : Answer} {asked : List Asked} {answers : List Answer} {before between after : Standing S}
      (F : Filtered s a before r between) (t : Tally) (alike : Alike before.bench t)
      (later : (u : Tally) → Alike between.bench u → Told s asked answers u between.picture after) where
    told_by : (x : Option BenchFault) → first_fault (tally_checks (pixels_of s.map) a t) ≡ x →
        r ≡ answered x (moved a.call before.bench.book.levels).present → Told s (a ∷ asked) (r ∷ answers) t before.picture after
    told_by None none r-is =
        let b = before.bench in
        let c = a.call in
        let level : r ≡ Ok (moved c t.levels).present = r-is ∙ ap (λ l. Ok (moved c l).present) alike.levels_are in
        let done = operated s.scale (ground_of s) c.operation c.size before.picture in
        let rest = later (counted c t) (record {
          levels_are = F.levels_are ∙ ap (λ q. left_by q (moved c b.book.levels) b.book.levels) r-is ∙ ap (moved c) alike.levels_are;
          count_is = F.count_is ∙ ap (λ q. left_by q (b.book.count + 1) b.book.count) r-is ∙ ap (λ k. k + 1) alike.count_is;
        }) in
        let δ = dilation s.scale (ground_of s) in
        let ε = erosion s.scale (ground_of s) in
        let n = pixels_of s.map in
        record {
          accepted = c ∷ rest.accepted;
          tally = rest.tally;
          tallied = subst (λ q. Tallied n (a ∷ asked) t (q ∷ answers) (c ∷ rest.accepted) rest.tally) (sym level)
              (accepts none rest.tallied);
          alike = rest.alike;
          picture_is =
              rest.picture_is ∙ ap (run δ ε rest.accepted) (F.picture_is ∙ ap (λ q. left_by q done before.picture) r-is);
        }
    told_by (Some f) some r-is =
        let b = before.bench in
        let c = a.call in
        let done = operated s.scale (ground_of s) c.operation c.size before.picture in
        let rest = later t (record {
          levels_are = F.levels_are ∙ ap (λ q. left_by q (moved c b.book.levels) b.book.levels) r-is ∙ alike.levels_are;
          count_is = F.count_is ∙ ap (λ q. left_by q (b.book.count + 1) b.book.count) r-is ∙ alike.count_is;
        }) in
        let δ = dilation s.scale (ground_of s) in
        let ε = erosion s.scale (ground_of s) in
        let n = pixels_of s.map in
        record {
          accepted = rest.accepted;
          tally = rest.tally;
          tallied = subst (λ q. Tallied n (a ∷ asked) t (q ∷ answers) rest.accepted rest.tally) (sym r-is)
              (refuses some rest.tallied);
          alike = rest.alike;
          picture_is =
              rest.picture_is ∙ ap (run δ ε rest.accepted) (F.picture_is ∙ ap (λ q. left_by q done before.picture) r-is);
        }

  told : inadmissible s.judgement s.map ≡ None → {asked : List Asked} {answers : List Answer} {before after : Standing S} →
      Run s asked answers before after → (t : Tally) → Fits s before → Alike before.bench t → Told s asked answers t before.picture after
  told admits no_call t fits alike = record { accepted = []; tally = t; tallied = tallies.no_call; alike = alike; picture_is = refl }
  told admits (one_more {a = a} {r = r} {before = before} F R) t fits alike =
      told_by F t alike (λ u same. told admits R u (fits_on F fits) same) (first_fault (tally_checks (pixels_of s.map) a t)) refl
      (F.answer_is ∙ ap (λ x. answered x (moved a.call before.bench.book.levels).present) (checks_left admits a fits alike))

-- a tally has the levels of the accepted calls, and counts them
tally_levels : {n : ℕ} {asked : List Asked} {answers : List Answer} {calls : List Call} {t u : Tally} → Tallied n asked t answers calls u →
    u.levels ≡ levels_after calls t.levels
tally_levels tallies.no_call = refl
tally_levels (accepts none rest) = tally_levels rest
tally_levels (refuses some rest) = tally_levels rest

tally_count : {n : ℕ} {asked : List Asked} {answers : List Answer} {calls : List Call} {t u : Tally} → Tallied n asked t answers calls u →
    u.count ≡ t.count + length calls
tally_count tallies.no_call = omega arith
tally_count (accepts none rest) = let e = tally_count rest in omega arith
tally_count (refuses some rest) = tally_count rest

pub lawful : {V S : Type 0} (s : Setting V S) → Lattice s.scale → inadmissible s.judgement s.map ≡ None →
    {asked : List Asked} {answers : List Answer} {b : Bench} {f : List S} {after : Standing S} →
    Fits s (standing b f) → Alike b empty → Run s asked answers (standing b f) after → Lawful s f asked answers after
lawful s L admits {asked} {answers} {b} {f} {after} fits alike R =
    let g = ground_of s in
    let told = told s admits R empty fits alike in
    let calls = told.accepted in
    let l : told.tally.levels ≡ levels_after calls at_zero = tally_levels told.tallied in
    let p = told.picture_is in
    let runs = laws_of_runs (adjoint L g) in
    let opens = laws_of_openings (adjoint L g) in
    record {
      accepted = calls;
      tally = told.tally;
      tallied = told.tallied;
      tally_is = record {
        count_is = let e = tally_count told.tallied in omega arith;
        levels_are = subst (LawsOfLevels calls) (sym l) (levels calls);
      };
      levels_are = told.alike.levels_are;
      count_is = told.alike.count_is;
      picture_is = p;
      between = subst₂ (λ m q. Between s.scale g f m q) (sym l) (sym p)
          (record { floor = runs.floor calls f; ceiling = runs.ceiling calls f });
      of_kinds = subst (λ q. OfKinds s.scale g f calls q) (sym p)
          (record {
            lowering = runs.lowering calls f;
            raising = runs.raising calls f;
            openings = opens.openings calls f;
            closings = opens.closings calls f;
          });
    }
