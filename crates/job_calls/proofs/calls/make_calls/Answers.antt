use Rattle.std.proofs.Common.{[], string_bytes, sym, subst, arith}
use Rattle.std.proofs.lemmas.List.{take_more}
use Rattle.std.proofs.lemmas.Result.{err_from_is_err_and}
use Rattle.bench.specs.Settings.{standing}
use Rattle.job_calls.specs.Made.{grey_setting}
use Rattle.job_calls.specs.Calling.{Performed}
use Rattle.job_calls.proofs.Calling.{performed_none, performed_more, stopped, torn}
use Rattle.job_calls.proofs.calls.make_calls.Goals as goal

pub loop-index-init : goal.loop-index-init
loop-index-init g c = performed_none _ _ _

pub returns-in_err-make_call : goal.returns-in_err-make_call
returns-in_err-make_call g c =
    let l = c.loop-index in
    let p = err_from_is_err_and c.from_residual.result c.from_residual.ensures.1 in
    rw (p.1, p.2) (stopped (grey_setting (g.C.Criterion.judgement c.args.criterion.now) c.args.map.now) c.args.first l.index c.args.cut.left c.args.reader.place c.args.cut.records.now (standing c.make_call.new.bench c.make_call.new.picture) (string_bytes c.make_call.new.text) c.in_err-make_call.field-0.0 c.loop-index-test.true l.invariant c.in_err-make_call.ensures)

pub loop-index-preserved : goal.loop-index-preserved
loop-index-preserved g c =
    let l = c.loop-index in
    let s = grey_setting (g.C.Criterion.judgement c.args.criterion.now) c.args.map.now in
    let after = standing c.make_call.new.bench c.make_call.new.picture in
    subst (λ rs. Performed s rs (standing c.args.bench.now c.args.picture.now) (string_bytes c.args.text.now) after (string_bytes c.make_call.new.text)) (sym (take_more c.args.cut.records.now l.index [] c.loop-index-test.true)) (performed_more s {after = after} l.invariant c.in_ok-make_call.ensures)

pub returns-in_err-end : goal.returns-in_err-end
returns-in_err-end g c =
    let l = c.loop-index in
    let p = err_from_is_err_and c.from_residual-in_err-end.result c.from_residual-in_err-end.ensures.1 in
    rw (p.1, p.2) (torn (grey_setting (g.C.Criterion.judgement c.args.criterion.now) c.args.map.now) c.args.first l.index c.args.cut.left c.args.reader.place c.args.cut.records.now (omega arith) l.invariant c.in_err-end.field-0.0 c.in_err-end.ensures)
