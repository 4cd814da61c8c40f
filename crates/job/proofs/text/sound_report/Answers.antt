use Rattle.std.proofs.Common.{◌≡◌, ◌/◌, length, arith}
use Rattle.lines.specs.Lines.{rows_text}
use Rattle.lines.proofs.Texts.{all_rows}
use Rattle.records.proofs.Heads.{passing_tile}
use Rattle.job.proofs.text.sound_report.Goals as goal

pub returns : goal.returns
returns c =
    let h = c.args.head in
    let picture = c.args.picture.now in
    let none : c.args.calls ≡ 0 = omega arith in
    let rows : rows_text c.from.result (length picture / c.from.result) picture ≡ rows_text h.width h.height picture =
    rw c.from.ensures (all_rows h.width h.height picture (passing_tile h c.requires.passed).some_width c.requires.rows)
    in
    rw (none, ← rows) c.format.ensures.ok
