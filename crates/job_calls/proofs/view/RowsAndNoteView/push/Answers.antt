use Rattle.std.proofs.Common.{◌≡◌, ◌/◌, ◌<◌, length, rules, arith}
use Rattle.std.proofs.lemmas.Grind.{common_steps}
use Rattle.lines.specs.Lines.{rows_text}
use Rattle.lines.proofs.Texts.{all_rows}
use Rattle.job_calls.proofs.view.RowsAndNoteView.push.Goals as goal

pub returns : goal.returns
returns c =
    let h = c.args.done.head in
    let picture = c.args.done.filtered.now in
    let wide : 0 < h.width = grind (arith, common_steps) in
    let rows : rows_text c.from.result (length picture / c.from.result) picture ≡ rows_text h.width h.height picture =
    rw c.from.ensures (all_rows h.width h.height picture wide c.args.done.filtered_whole)
    in
    rw (← rows) (search rules)
