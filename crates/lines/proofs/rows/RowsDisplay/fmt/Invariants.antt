use Rattle.std.proofs.Common.{◌≡◌, ◌*◌, ◌≤◌, length, drop}
use Rattle.std.specs.Fmt.{HasWritten, IsPlainFormatter}
use Rattle.std.specs.Slice.Iter.{chunks_exact_rest, chunks_exact_size}
use Rattle.lines.specs.Lines.{rows_text}
use Rattle.lines.proofs.rows.RowsDisplay.fmt.Given as goal

abbrev pub invariant-loop-row : goal.invariant-loop-row
invariant-loop-row g l =
    let w = l.self.width in
    let vs = l.self.picture.now in
    let rows = length l.yielded in
    record {
      size : chunks_exact_size l.row-iterator ≡ w;
      within : rows * w ≤ length vs;
      rest : chunks_exact_rest l.row-iterator ≡ drop (rows * w) vs;
      text : IsPlainFormatter l.fn.f → HasWritten g.W.Write.write_str_gives l.fn.f (rows_text w rows vs) l.f;
    }
