use Rattle.std.proofs.Common.{[], get_or, sym, refl, ap, ◌∙◌, arith}
use Rattle.std.proofs.Common.{drop, ◌+◌}
use Rattle.records.specs.Reading.{taken}
use Rattle.job.specs.Reading.{read_on}
use Rattle.job.specs.Progress.{progress}
use Rattle.job.proofs.Readings.{read_more, calls_grow, filled_after}
use Rattle.job.proofs.reading.JobReader.read.Goals as goal

pub loop-number-preserved : goal.loop-number-preserved
loop-number-preserved c =
    let l = c.loop-number in
    let n = l.number in
    let s = progress l.self in
    let records = c.of-cut.result.records.now in
    let bs = get_or records n [] in
    let t = c.in_ok-advance.ensures in
    let grows = calls_grow (taken n s.place bs) s in
    let same = ap (λ q. q.calls) t.1 in
    record {
      few = omega (arith, l.invariant.few);
      filled = rw t.1 (filled_after n s bs _ refl l.invariant.filled);
      read = λ left. l.invariant.read left ∙ read_more n records left s c.loop-number-test.true t.0 ∙ ap (read_on (n + 1) (drop (n + 1) records) left) (sym t.1);
    }
