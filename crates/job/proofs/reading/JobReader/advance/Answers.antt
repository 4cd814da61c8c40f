use Rattle.std.proofs.Common.{length, sym, ap, ◌∙◌}
use Rattle.job.specs.Reading.{pixels_read}
use Rattle.job.specs.Progress.{progress}
use Rattle.job.proofs.Readings.{filled_after}
use Rattle.job.proofs.reading.JobReader.advance.Goals as goal

pub lay-requires-clause-count : goal.lay-requires-clause-count
lay-requires-clause-count c =
    let t = c.in_ok-taken.ensures in
    let here = sym c.place.ensures ∙ c.in-Pixel-Calls.is-1 in
    let full = (filled_after c.args.number (progress c.args.self.now) c.args.bytes.now _ (sym t.answer) c.requires.filled).map_count in
    ap length (c.deref.ensures.value ∙ c.in_ok-add.ensures.map) ∙ full ∙ ap pixels_read (sym t.place ∙ here)
