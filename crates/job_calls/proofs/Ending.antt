-- What the work on a job comes to. Assumes nothing.
use Rattle.std.proofs.Common.{◌≡◌, ℕ, ◌+◌, ◌-◌, List, [], ◌++◌, length, take, drop, pos, Some, None, Ok, Err, Result, sym, refl, ap, ◌∙◌, subst, append_assoc, append-nil, arith, length-append, length-drop, take-append-drop, length-take-le, take_all}
use Rattle.criteria.specs.Criteria.{Judgement}
use Rattle.criteria.specs.declared.fault.MapFault.TheVariants.{Inadmissible}
use Rattle.maps.specs.declared.map.Map.{Map}
use Rattle.maps.specs.Windows.{window, window_of}
use Rattle.maps.specs.Admission.{FirstNot}
use Rattle.morphology.specs.declared.calls.Levels.{Levels}
use Rattle.morphology.specs.Calls.{Call}
use Rattle.bench.specs.declared.bench.Bench.{Bench}
use Rattle.bench.specs.declared.fault.BenchFault.TheVariants as bench-fault
use Rattle.bench.specs.Settings.{Standing, standing}
use Rattle.bench.specs.Laws.{Seated}
use Rattle.records.specs.declared.fault.ReaderFault.{ReaderFault}
use Rattle.records.specs.declared.fault.ReaderFault.TheVariants as reader
use Rattle.records.specs.declared.records.Head.{Head}
use Rattle.records.specs.declared.place.Place.{Place}
use Rattle.records.specs.declared.place.Place.TheVariants.{Calls}
use Rattle.records.specs.Records.{pixels}
use Rattle.records.specs.Reading.{judged}
use Rattle.records.specs.declared.stop.Stop.{Stop}
use Rattle.records.specs.declared.stop.Stop.TheVariants.{Fault, Memory}
use Rattle.records.specs.Jobs.{Job, tile_records, call_records, records_of, Sound}
use Rattle.job_calls.specs.Stops.{Bad, Stops, at_seat, in_calls}
use Rattle.job_calls.specs.Made.{Made, grey_setting}
use Rattle.records.specs.Faults.{line_of_fault}
use Rattle.job_calls.specs.Lines.{call_lines}
use Rattle.job_calls.specs.Calling.{Performed, Went, RefusedAt}
use Rattle.job_calls.specs.Prints.{Ending, closing_text, Prints, whole, unseated, broken_off}
use Rattle.job_calls.specs.Ends.{Taken, NoTile, Filters, AfterCalls, Ends}

-- the records from number n on, as a slice has them
pub rest_is : {A : Type 0} (xs : List A) (n : ℕ) → take (length xs - n) (drop n xs) ≡ drop n xs
rest_is xs n = take_all (length xs - n) (drop n xs) (simp length-drop (omega arith))

module _ (records : List (List ℕ)) (n left : ℕ) (h : Head) (values grey : List ℕ) (T : Taken records n h values grey) where
  -- the records of the tile, and those after it
  cut : records ≡ tile_records h values grey ++ drop n records
  cut = sym (take-append-drop n records) ∙ ap (λ rs. rs ++ drop n records) T.front

  -- a value that is not admitted is found at the last pixel
  pub refused : (ending : Ending) (j : Judgement ℕ) (f : ReaderFault) (text : List ℕ) → j ≡ judged h → text ≡ [] →
      RefusedAt (n - 1) (λ i. FirstNot j.admits values (Some i)) f → Prints ending records left (text ++ line_of_fault f)
  refused ending j f text e none r =
      let first = subst (λ (k : Judgement ℕ). FirstNot k.admits values (Some r.pixel)) e r.found in
      let last : n - 1 ≡ pixels h = omega (arith, T.number) in
      let stops = at_seat h values grey (drop n records) T.tile first cut in
      unseated (subst (Stops records left None) (sym (r.is ∙ ap (reader.Bench (bench-fault.Map (Inadmissible r.pixel))) last)) stops) (ap (λ t. t ++ line_of_fault f) none)

  module _ (on : Map ℕ) (shows : window_of on ≡ window values h.width h.height h.joining) (b : Bench)
      (seated : Seated (grey_setting (judged h) on) grey b) (admitted : FirstNot (judged h).admits values None) where
    -- the job with these calls
    abbrev job_of : List Call → Job
    job_of calls = record { head = h; map = values; grey = grey; calls = calls }

    sound_of : (calls : List Call) → Sound (job_of calls)
    sound_of calls = record { tile = T.tile; admitted = admitted }

    module _ {front : List (List ℕ)} {after : Standing ℕ} {old new : List ℕ} (none : old ≡ []) (P : Performed (grey_setting (judged h) on) front (standing b grey) old after new) where
      made_of : Made (job_of P.calls) P.answers after
      made_of = record { on = on; shows = shows; bench = b; seated = seated; ran = P.ran; lawful = seated.lawful _ _ _ P.ran }

      lines_of : new ≡ call_lines (pos 0) P.calls P.answers
      lines_of = P.lines ∙ ap (λ t. t ++ call_lines b.book.levels.present P.calls P.answers) none
          ∙ ap (λ (l : Levels). call_lines l.present P.calls P.answers) seated.levels_start

      whole_of : (rest : List (List ℕ)) → drop n records ≡ front ++ rest → records ≡ records_of (job_of P.calls) ++ rest
      whole_of rest e =
          cut ∙ ap (λ rs. tile_records h values grey ++ rs) (e ∙ ap (λ rs. rs ++ rest) P.are)
          ∙ sym (append_assoc (tile_records h values grey) (call_records P.calls) rest)

      -- so many records come before those that follow
      count_of : n + length front ≡ length (records_of (job_of P.calls))
      count_of =
          let a = ap length T.front in
          let b = length-take-le n records T.within in
          let c = ap length P.are in
          let d = length-append (tile_records h values grey) (call_records P.calls) in
          omega arith

    -- the job is done
    finished : (p : Place) (c : Bench) (picture old new : List ℕ) (u : Unit {0}) → old ≡ [] →
        Went (grey_setting (judged h) on) n p (drop n records) left (standing b grey) old (Ok u) (standing c picture) new →
        Filters records left h grey c picture new
    finished p c picture old new u none (P, e) = record {
      job = job_of P.calls;
      answers = P.answers;
      sound = sound_of P.calls;
      head_is = refl;
      grey_is = refl;
      records_are = whole_of none P [] (sym (append-nil (drop n records))) ∙ append-nil (records_of (job_of P.calls));
      none_left = e;
      made = made_of none P;
      lines = lines_of none P;
    }

    -- or it is broken off
    stopped : (ending : Ending) (p : Place) (c : Bench) (picture old new : List ℕ) (e : Stop) → old ≡ [] → p ≡ Calls h →
        Went (grey_setting (judged h) on) n p (drop n records) left (standing b grey) old (Err e) (standing c picture) new →
        AfterCalls ending records left h grey (Err e) picture new
    stopped ending p c picture old new (Fault f) none here B =
        let P = B.performed in
        let job = job_of P.calls in
        let bad = subst (λ k. Bad k (Calls h) B.rest left f) (count_of none P) (subst (λ q. Bad (n + length B.front) q B.rest left f) here B.bad) in
        broken_off (in_calls job (sound_of P.calls) bad (whole_of none P B.rest B.cut)) (made_of none P) (ap (λ t. t ++ line_of_fault f) (lines_of none P))
    stopped ending p c picture old new (Memory e) none here B = tt

  -- a call list's answer with the bench that it left
  abbrev pub with_bench : Bench → Result (Unit {0}) Stop → Result Bench Stop
  with_bench c (Ok u) = Ok c
  with_bench c (Err e) = Err e

  -- what the calls come to, once the picture is seated
  pub after_calls : (ending : Ending) (j : Judgement ℕ) (picture : List ℕ) (rest : List (List ℕ)) (on : Map ℕ) (b c : Bench) (filtered old new : List ℕ) (p : Place) (r : Result (Unit {0}) Stop) →
      j ≡ judged h → picture ≡ grey → rest ≡ drop n records → old ≡ [] → p ≡ Calls h →
      window_of on ≡ window values h.width h.height h.joining → Seated (grey_setting j on) picture b → FirstNot j.admits values None →
      Went (grey_setting j on) n p rest left (standing b picture) old r (standing c filtered) new →
      AfterCalls ending records left h grey (with_bench c r) filtered new
  after_calls ending j picture rest on b c filtered old new p r e same q none here shows seated admitted went = ends r went_on
    where
      seated_on : Seated (grey_setting (judged h) on) grey b
      seated_on = subst (λ xs. Seated (grey_setting (judged h) on) xs b) same (subst (λ k. Seated (grey_setting k on) picture b) e seated)

      admitted_on : FirstNot (judged h).admits values None
      admitted_on = subst (λ (k : Judgement ℕ). FirstNot k.admits values None) e admitted

      went_on : Went (grey_setting (judged h) on) n p (drop n records) left (standing b grey) old r (standing c filtered) new
      went_on =
          subst (λ rs. Went (grey_setting (judged h) on) n p rs left (standing b grey) old r (standing c filtered) new) q
          (subst (λ xs. Went (grey_setting (judged h) on) n p rest left (standing b xs) old r (standing c filtered) new) same
          (subst (λ k. Went (grey_setting k on) n p rest left (standing b picture) old r (standing c filtered) new) e went))

      ends : (r : Result (Unit {0}) Stop) → Went (grey_setting (judged h) on) n p (drop n records) left (standing b grey) old r (standing c filtered) new →
          AfterCalls ending records left h grey (with_bench c r) filtered new
      ends (Ok u) w = finished on shows b seated_on admitted_on p c filtered old new u none w
      ends (Err f) w = stopped on shows b seated_on admitted_on ending p c filtered old new f none here w

-- what ends the reading of the tile ends the job
pub unread : (ending : Ending) (records rs : List (List ℕ)) (left k : ℕ) (e : Stop) (text : List ℕ) → records ≡ rs → left ≡ k → text ≡ [] →
    NoTile records left e → Ends ending rs k (Err e) text
unread ending records rs left k (Fault f) text a b none s =
    unseated (subst (λ m. Stops rs m None f) b (subst (λ xs. Stops xs left None f) a s)) (ap (λ t. t ++ line_of_fault f) none)
unread ending records rs left k (Memory e) text a b none s = tt

-- the line of a fault is added
pub ended_by : (ending : Ending) (records : List (List ℕ)) (left : ℕ) (old new : List ℕ) (e : Stop) (f : ReaderFault) → Ends ending records left (Err e) old → e ≡ Fault f →
    new ≡ old ++ line_of_fault f → Prints ending records left new
ended_by ending records left old new e f p is line = subst (Prints ending records left) (sym line) (subst (λ x. Ends ending records left (Err x) old) is p)

-- calls that were broken off end the job
pub left_off : (ending : Ending) (records : List (List ℕ)) (left : ℕ) (h : Head) (grey picture text : List ℕ) (e : Stop) →
    AfterCalls ending records left h grey (Err e) picture text → Ends ending records left (Err e) text
left_off ending records left h grey picture text (Fault f) p = p
left_off ending records left h grey picture text (Memory e) p = tt

-- with its ending, the text of a job that is done is what it prints
pub printed : (ending : Ending) (records : List (List ℕ)) (left : ℕ) (h : Head) (grey : List ℕ) (b : Bench) (picture one two : List ℕ) →
    Filters records left h grey b picture one → two ≡ one ++ ending h grey picture b.book.levels b.book.count → Prints ending records left two
printed ending records left h grey b picture one two F e =
    let last = ap (λ (k : Head). ending k grey picture b.book.levels b.book.count) (sym F.head_is) ∙ ap (λ g. ending F.job.head g picture b.book.levels b.book.count) (sym F.grey_is) in
    whole F.sound F.records_are F.none_left F.made
    (e ∙ ap (λ t. one ++ t) last ∙ ap (λ t. t ++ closing_text ending F.job (standing b picture)) F.lines)
