-- Calls of a job, made one after another. Assumes nothing.
use Rattle.std.proofs.Common.{◌≡◌, ℕ, suc, ◌+◌, ◌<◌, Bool, true, false, cond, eqb, List, [], ◌∷◌, ◌++◌, map, length, get_or, take, drop, Ok, Err, sym, refl, ap, ◌∙◌, subst, append_assoc, append-nil, arith, take-append-drop, length-take-le, drop-cons}
use lib.Seq.{take-length}
use Rattle.std.proofs.lemmas.Bool.{eqb-true}
use Rattle.maps.specs.Checks.{first_fault, answered, left_by}
use Rattle.morphology.specs.declared.calls.Levels.{Levels}
use Rattle.morphology.specs.Levels.{moved}
use Rattle.morphology.specs.Calls.{Call}
use Rattle.bench.specs.Settings.{Setting, Standing, Asked}
use Rattle.bench.specs.Checks.{filter_checks}
use Rattle.bench.specs.Calls.{Answer, Filtered, Run, no_call, one_more}
use Rattle.bench.proofs.Passing.{the_value}
use Rattle.records.specs.declared.fault.ReaderFault.{ReaderFault}
use Rattle.records.specs.declared.fault.ReaderFault.TheVariants.{Torn}
use Rattle.records.specs.declared.place.Place.{Place}
use Rattle.records.specs.declared.records.Head.{Head}
use Rattle.records.specs.Reading.{done, ended}
use Rattle.records.specs.declared.stop.Stop.{Stop}
use Rattle.records.specs.declared.stop.Stop.TheVariants.{Fault, Memory}
use Rattle.records.specs.Jobs.{call_record, call_records}
use Rattle.job_calls.specs.Stops.{Bad, by_record, by_end}
use Rattle.job_calls.specs.Made.{asked}
use Rattle.job_calls.specs.Lines.{number_of_answer, level_after, call_line, call_lines}
use Rattle.job_calls.specs.Calling.{Called, Tried, Performed, Went}

module _ (s : Setting ℕ ℕ) where
  -- one call more
  run_more : {xs : List Asked} {rs : List Answer} {a : Asked} {r : Answer} {before mid after : Standing ℕ} →
      Run s xs rs before mid → Filtered s a mid r after → Run s (xs ++ (a ∷ [])) (rs ++ (r ∷ [])) before after
  run_more no_call F = one_more F no_call
  run_more (one_more G R) F = one_more G (run_more R F)

  -- the level that a call leaves is that of its line
  level_left : {a : Asked} {r : Answer} {before after : Standing ℕ} → Filtered s a before r after →
      level_after before.bench.book.levels.present r ≡ after.bench.book.levels.present
  level_left {a} {r} {before} {after} F = at r F.answer_is F.levels_are
    where
      at : (r : Answer) → r ≡ answered (first_fault (filter_checks s a before)) (moved a.call before.bench.book.levels).present →
          after.bench.book.levels ≡ left_by r (moved a.call before.bench.book.levels) before.bench.book.levels →
          level_after before.bench.book.levels.present r ≡ after.bench.book.levels.present
      at (Ok z) e l = the_value (first_fault (filter_checks s a before)) (moved a.call before.bench.book.levels).present e ∙ sym (ap (λ (l : Levels). l.present) l)
      at (Err f) e l = sym (ap (λ (l : Levels). l.present) l)

  -- and its line comes after the lines before
  lines_more : (calls : List Call) {rs : List Answer} {c : Call} {r : Answer} {before mid after : Standing ℕ} →
      Run s (map asked calls) rs before mid → Filtered s (asked c) mid r after →
      call_lines before.bench.book.levels.present (calls ++ (c ∷ [])) (rs ++ (r ∷ []))
      ≡ call_lines before.bench.book.levels.present calls rs ++ call_line c (number_of_answer r) after.bench.book.levels.present
  lines_more [] {c = c} {r = r} no_call F =
      append-nil _ ∙ ap (call_line c (number_of_answer r)) (level_left F)
  lines_more (b ∷ calls) {c = c} {r = r} {before = before} {after = after} (one_more {r = q} {answers = rs} G R) F =
      let z = level_left G in
      let line = call_line b (number_of_answer q) (level_after before.bench.book.levels.present q) in
      let later = ap (λ y. call_lines y (calls ++ (c ∷ [])) (rs ++ (r ∷ []))) z ∙ lines_more calls R F ∙ ap (λ y. call_lines y calls rs ++ call_line c (number_of_answer r) after.bench.book.levels.present) (sym z) in
      ap (λ t. line ++ t) later ∙ sym (append_assoc line _ _)

pub calls_more : (calls : List Call) (c : Call) → call_records (calls ++ (c ∷ [])) ≡ call_records calls ++ (call_record c ∷ [])
calls_more [] c = refl
calls_more (b ∷ calls) c = ap (λ rs. call_record b ∷ rs) (calls_more calls c)

asked_more : (calls : List Call) (c : Call) → map asked (calls ++ (c ∷ [])) ≡ map asked calls ++ (asked c ∷ [])
asked_more [] c = refl
asked_more (b ∷ calls) c = ap (λ xs. asked b ∷ xs) (asked_more calls c)

module _ (s : Setting ℕ ℕ) where
  pub performed_none : (before : Standing ℕ) (old : List ℕ) → Performed s [] before old before old
  performed_none before old = record { calls = []; answers = []; are = refl; ran = no_call; lines = sym (append-nil old) }

  pub performed_more : {front : List (List ℕ)} {bs : List ℕ} {before mid after : Standing ℕ} {old new newer : List ℕ} →
      Performed s front before old mid new → Called s bs mid new after newer → Performed s (front ++ (bs ∷ [])) before old after newer
  performed_more {front} {bs} {before} {mid} {after} {old} {new} {newer} p q =
      let z = before.bench.book.levels.present in
      let one = call_line q.call (number_of_answer q.answer) after.bench.book.levels.present in
      record {
        calls = p.calls ++ (q.call ∷ []);
        answers = p.answers ++ (q.answer ∷ []);
        are = ap (λ rs. rs ++ (bs ∷ [])) p.are ∙ ap (λ b. call_records p.calls ++ (b ∷ [])) q.is ∙ sym (calls_more p.calls q.call);
        ran = subst (λ xs. Run s xs (p.answers ++ (q.answer ∷ [])) before after) (sym (asked_more p.calls q.call)) (run_more s p.ran q.filtered);
        lines = q.line ∙ ap (λ t. t ++ one) p.lines ∙ append_assoc old _ one ∙ ap (λ t. old ++ t) (sym (lines_more s p.calls p.ran q.filtered));
      }

  -- a record at fault ends the calls, and so does want of memory
  pub stopped : (n i left : ℕ) (p : Place) (records : List (List ℕ)) {before mid : Standing ℕ} {old new : List ℕ} (after : Standing ℕ) (newer : List ℕ) (e : Stop) →
      i < length records → Performed s (take i records) before old mid new → Tried s (n + i) p (get_or records i []) mid new (Err e) after newer →
      Went s n p records left before old (Err e) after newer
  stopped n i left p records after newer (Fault f) lt P t =
      let count = length-take-le i records (omega arith) in
      record {
        front = take i records;
        rest = get_or records i [] ∷ drop (suc i) records;
        cut = sym (take-append-drop i records) ∙ ap (λ rs. take i records ++ rs) (drop-cons records i [] lt);
        performed = rw (t.1, t.2) P;
        bad = subst (λ k. Bad (n + k) p (get_or records i [] ∷ drop (suc i) records) left f) (sym count) (by_record t.0);
      }
  stopped n i left p records after newer (Memory e) lt P t = tt

  module _ (n i left : ℕ) (p : Place) (records : List (List ℕ)) {before after : Standing ℕ} {old new : List ℕ} (all : i ≡ length records) (P : Performed s (take i records) before old after new) where
    whole : Performed s records before old after new
    whole = subst (λ rs. Performed s rs before old after new) (ap (λ k. take k records) all ∙ take-length records) P

    -- bytes left over end them too
    pub torn : (f : ReaderFault) → Err f ≡ ended (n + length records) left p → Went s n p records left before old (Err (Fault f)) after new
    torn f e = record { front = records; rest = []; cut = sym (append-nil records); performed = whole; bad = by_end (sym e) }

    -- with none left over all is done
    pub done_all : {h : Head} → Ok h ≡ ended (n + length records) left p → Went s n p records left before old (Ok tt) after new
    done_all {h} e = (whole, none_left (eqb left 0) refl e)
      where
        none_left : (b : Bool) → eqb left 0 ≡ b → Ok h ≡ cond b (done (n + length records) p) (Err (Torn (n + length records))) → left ≡ 0
        none_left true q e = eqb-true left 0 q
        none_left false q e = absurd cc
