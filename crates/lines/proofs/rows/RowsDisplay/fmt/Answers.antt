use Rattle.std.proofs.Common.{◌≡◌, ◌+◌, ◌∷◌, [], ◌++◌, length, sym, ap, ◌∙◌, rules, arith, length-append}
use Rattle.std.proofs.Output.{has_written_append, has_written_of_eq}
use Rattle.lines.specs.Lines.{rows_text}
use Rattle.lines.proofs.Texts.{rows_text-more, rows_done}
use Rattle.lines.proofs.rows.RowsDisplay.fmt.Goals as goal

pub loop-row-preserved : goal.loop-row-preserved
loop-row-preserved g c =
    let s = c.args.self.now in
    let k = length c.loop-row.yielded in
    let so_far = c.loop-row.invariant in
    let step = c.in-Some.ensures.steps in
    let cut = step.1 in
    let more = rows_text-more s.width k s.picture.now _ _ _ so_far.within so_far.rest cut.0 (cut.1 ∙ so_far.size) in
    let one : length (c.loop-row.yielded ++ c.in-Some.row ∷ []) ≡ k + 1 = length-append c.loop-row.yielded (c.in-Some.row ∷ []) in
    rw one (record {
      size = step.0 ∙ so_far.size;
      within = more.2;
      rest = more.1;
      text = λ p. has_written_of_eq _ _ _ _ _ more.0 (has_written_append _ _ _ _ _ _ (so_far.text p) (search rules));
    })

pub returns-clause-writes : goal.returns-clause-writes
returns-clause-writes g c = λ p ok.
    let s = c.args.self.now in
    let k = length c.loop-row.yielded in
    let so_far = c.loop-row.invariant in
    let step = c.in-None.ensures.steps in
    let all = rows_done s.width k s.picture.now _ so_far.within so_far.rest (omega (arith, step.1.0, so_far.size)) in
    has_written_of_eq _ _ _ _ _ (ap (λ h. rows_text s.width h s.picture.now) (sym all)) (so_far.text p)
