-- No bytes print two texts. Assumes nothing.
use Rattle.std.proofs.Common.{◌≡◌, ℕ, ◌*◌, List, [], ◌∷◌, ◌++◌, map, pos, Some, None, Ok, Err, Option, sym, refl, ap, ◌∙◌, subst}
use Rattle.scales.specs.Grey as scales
use Rattle.maps.specs.Windows.{Window}
use Rattle.maps.specs.Grounds as grounds
use Rattle.morphology.specs.Levels.{moved}
use Rattle.morphology.specs.Neighbourhoods.{Ground}
use Rattle.morphology.specs.Pictures.{dilation, erosion}
use Rattle.morphology.specs.Calls.{Call, run}
use Rattle.bench.specs.Settings.{Standing, Asked, ground_of}
use Rattle.bench.specs.Calls.{Answer}
use Rattle.bench.specs.Tallies.{Tally, empty, Tallied, no_call, accepts, refuses}
use Rattle.records.specs.declared.fault.ReaderFault.{ReaderFault}
use Rattle.records.specs.Reading.{judged}
use Rattle.records.specs.Jobs.{Job, job_bytes, Sound}
use Rattle.job_calls.specs.Stops.{Stops}
use Rattle.job_calls.specs.Made.{Made, asked, grey_setting}
use Rattle.records.specs.Faults.{line_of_fault}
use Rattle.job_calls.specs.Lines.{call_lines}
use Rattle.job_calls.specs.Prints.{Ending, closing_text, whole, unseated, broken_off, Printed}
use Rattle.records.specs.Jobs.{records_in, left_over}
use Rattle.job_calls.specs.Laws.{Outcome, done, stopped, ComesTo, as_job, to_fault, EndsWith}
use Rattle.records.proofs.Cuts.{job_cut, bytes_of}
use Rattle.job_calls.proofs.Outcomes.{one_outcome}

-- a tally is told in one way
record ToldOnce (a a' : List Answer) (c c' : List Call) (t t' : Tally) : Type 0 where
  answers_same : a ≡ a'
  calls_same : c ≡ c'
  tally_same : t ≡ t'

tallied_once : {n : ℕ} {xs : List Asked} {t u u' : Tally} {a a' : List Answer} {c c' : List Call} →
    Tallied n xs t a c u → Tallied n xs t a' c' u' → ToldOnce a a' c c' u u'
tallied_once no_call no_call = record { answers_same = refl; calls_same = refl; tally_same = refl }
tallied_once (accepts {a = x} {t = t} e more) (accepts e' more') =
    let rest = tallied_once more more' in
    record {
      answers_same = ap (λ xs. Ok (moved x.call t.levels).present ∷ xs) rest.answers_same;
      calls_same = ap (λ cs. x.call ∷ cs) rest.calls_same;
      tally_same = rest.tally_same;
    }
tallied_once (accepts e more) (refuses e' more') = absurd cc
tallied_once (refuses e more) (accepts e' more') = absurd cc
tallied_once (refuses {f = f} {answers = xs} e more) (refuses {f = f'} e' more') =
    let rest = tallied_once more more' in
    let same : f ≡ f' = cc in
    record {
      answers_same = ap (λ x. Err x ∷ xs) same ∙ ap (λ ys. Err f' ∷ ys) rest.answers_same;
      calls_same = rest.calls_same;
      tally_same = rest.tally_same;
    }

-- the calls of a job are answered, and leave what they leave, in one way
record MadeOnce (a a' : List Answer) (s s' : Standing ℕ) : Type 0 where
  answers_same : a ≡ a'
  picture_same : s.picture ≡ s'.picture
  levels_same : s.bench.book.levels ≡ s'.bench.book.levels
  count_same : s.bench.book.count ≡ s'.bench.book.count

made_once : (j : Job) {a a' : List Answer} {s s' : Standing ℕ} → Made j a s → Made j a' s' → MadeOnce a a' s s'
made_once j {a} {a'} {s} {s'} M N =
    let same = M.shows ∙ sym N.shows in
    let area = ap (λ (w : Window ℕ). w.width * w.height) same in
    let L = M.lawful in
    let K = N.lawful in
    let once = tallied_once (subst (λ n. Tallied n (map asked j.calls) empty a L.accepted L.tally) area L.tallied) K.tallied in
    let ground = ap (λ (w : Window ℕ). grounds.ground_of (judged j.head) w) same in
    record {
      answers_same = once.answers_same;
      picture_same =
          L.picture_is
          ∙ ap (λ (g : Ground). run (dilation scales.grey g) (erosion scales.grey g) L.accepted j.grey) ground
          ∙ ap (λ cs. run (dilation scales.grey (ground_of (grey_setting (judged j.head) N.on))) (erosion scales.grey (ground_of (grey_setting (judged j.head) N.on))) cs j.grey) once.calls_same
          ∙ sym K.picture_is;
      levels_same = L.levels_are ∙ ap (λ (t : Tally). t.levels) once.tally_same ∙ sym K.levels_are;
      count_same = L.count_is ∙ ap (λ (t : Tally). t.count) once.tally_same ∙ sym K.count_is;
    }

lines_once : (j : Job) {a a' : List Answer} {s s' : Standing ℕ} → MadeOnce a a' s s' → call_lines (pos 0) j.calls a ≡ call_lines (pos 0) j.calls a'
lines_once j O = ap (call_lines (pos 0) j.calls) O.answers_same

module _ (ending : Ending) where
  end_once : (j : Job) {a a' : List Answer} {s s' : Standing ℕ} → MadeOnce a a' s s' → closing_text ending j s ≡ closing_text ending j s'
  end_once j {s = s} {s' = s'} O =
      ap (λ p. ending j.head j.grey p s.bench.book.levels s.bench.book.count) O.picture_same
      ∙ ap (λ l. ending j.head j.grey s'.picture l s.bench.book.count) O.levels_same
      ∙ ap (ending j.head j.grey s'.picture s'.bench.book.levels) O.count_same

  -- the text of each outcome
  data Tells : Outcome → List ℕ → Type 0 where
    of_job : {j : Job} {a : List Answer} {s : Standing ℕ} {t : List ℕ} → Made j a s → t ≡ call_lines (pos 0) j.calls a ++ closing_text ending j s → Tells (done j) t
    of_fault : {f : ReaderFault} {t : List ℕ} → t ≡ line_of_fault f → Tells (stopped None f) t
    of_break : {j : Job} {a : List Answer} {s : Standing ℕ} {f : ReaderFault} {t : List ℕ} → Made j a s → t ≡ call_lines (pos 0) j.calls a ++ line_of_fault f →
        Tells (stopped (Some j) f) t

  tells_once : {o : Outcome} {t u : List ℕ} → Tells o t → Tells o u → t ≡ u
  tells_once (of_job {j = j} {a = a} {s = s} M p) (of_job {a = b} N q) =
      let O = made_once j M N in
      p ∙ ap (λ x. x ++ closing_text ending j s) (lines_once j O) ∙ ap (λ x. call_lines (pos 0) j.calls b ++ x) (end_once j O) ∙ sym q
  tells_once (of_fault p) (of_fault q) = p ∙ sym q
  tells_once (of_break {j = j} {f = f} M p) (of_break N q) = p ∙ ap (λ x. x ++ line_of_fault f) (lines_once j (made_once j M N)) ∙ sym q

  record Told (bs text : List ℕ) : Type 0 where
    outcome : Outcome
    comes : ComesTo bs outcome
    tells : Tells outcome text

  told : (bs text : List ℕ) → Printed ending bs text → Told bs text
  told bs text (whole {j = j} s e none M t) = record { outcome = done j; comes = as_job s (bytes_of bs j e none); tells = of_job M t }
  told bs text (unseated {f = f} s t) = record { outcome = stopped None f; comes = to_fault s; tells = of_fault t }
  told bs text (broken_off {j = j} {f = f} s M t) = record { outcome = stopped (Some j) f; comes = to_fault s; tells = of_break M t }

  pub one_text : (bs text other : List ℕ) → Printed ending bs text → Printed ending bs other → text ≡ other
  one_text bs text other p q =
      let a = told bs text p in
      let b = told bs other q in
      tells_once (subst (λ o. Tells o text) (one_outcome bs a.outcome b.outcome a.comes b.comes) a.tells) b.tells

  pub job_prints : (j : Job) (answers : List Answer) (after : Standing ℕ) → Sound j → Made j answers after →
      Printed ending (job_bytes j) (call_lines (pos 0) j.calls answers ++ closing_text ending j after)
  job_prints j answers after s M = let cut = job_cut j in whole s cut.0 cut.1 M refl

  ends_with : {o : Option Job} {f : ReaderFault} {text : List ℕ} → Tells (stopped o f) text → EndsWith f text
  ends_with (of_fault p) = record { before = []; is = p }
  ends_with (of_break {j = j} {a = a} M p) = record { before = call_lines (pos 0) j.calls a; is = p }

  pub fault_ends : (bs text : List ℕ) (o : Option Job) (f : ReaderFault) → Stops (records_in bs) (left_over bs) o f → Printed ending bs text → EndsWith f text
  fault_ends bs text o f s p =
      let a = told bs text p in
      ends_with (subst (λ x. Tells x text) (one_outcome bs a.outcome (stopped o f) a.comes (to_fault s)) a.tells)
