use Rattle.std.proofs.Common.{take, string_bytes}
use Rattle.bench.specs.Settings.{standing}
use Rattle.job_calls.specs.Made.{grey_setting}
use Rattle.job_calls.specs.Calling.{Performed}
use Rattle.job_calls.proofs.calls.make_calls.Given as goal

abbrev pub invariant-loop-index : goal.invariant-loop-index
invariant-loop-index g l =
    Performed (grey_setting (g.C.Criterion.judgement l.criterion) l.map) (take l.index l.cut.records.now)
    (standing l.initial.bench l.initial.picture) (string_bytes l.initial.text) (standing l.bench l.picture) (string_bytes l.text)
