use Rattle.std.proofs.Common.{Ok, Err}
use Rattle.std.proofs.lemmas.Result.{err_from_is_err_and}
use Rattle.job_calls.proofs.Ending.{rest_is, refused, after_calls}
use Rattle.job_calls.proofs.tile.TakenTile.filter.Goals as goal

pub returns-in_err-bench : goal.returns-in_err-bench
returns-in_err-bench g c = λ ending.
    let t = c.args.self.now in
    let p = err_from_is_err_and c.from_residual.result c.from_residual.ensures.1 in
    rw (p.1, p.2) (refused t.cut.records.now t.taken t.cut.left t.head c.deref.result.now t.bytes.picture.items (rw c.deref.ensures.value t.tile) ending _ _ _ c.requires.judged c.requires.text c.in_err-bench.ensures.admitted)

pub returns-in_err-make_calls : goal.returns-in_err-make_calls
returns-in_err-make_calls g c = λ ending.
    let t = c.args.self.now in
    let seat = c.in_ok-bench.ensures in
    let r = err_from_is_err_and c.from_residual-in_err-make_calls.result c.from_residual-in_err-make_calls.ensures.1 in
    rw (r.1, r.2) (after_calls t.cut.records.now t.taken t.cut.left t.head c.deref.result.now t.bytes.picture.items (rw c.deref.ensures.value t.tile) ending _ _ _ _ c.in_ok-bench.bench c.make_calls.new.bench c.make_calls.new.picture _ _ _ (Err c.in_err-make_calls.field-0.0)
    c.requires.judged c.requires.picture (rest_is t.cut.records.now t.taken) c.requires.text t.calls seat.window seat.seated seat.admitted c.in_err-make_calls.ensures)

pub returns : goal.returns
returns g c = λ ending.
    let t = c.args.self.now in
    let seat = c.in_ok-bench.ensures in
    after_calls t.cut.records.now t.taken t.cut.left t.head c.deref.result.now t.bytes.picture.items (rw c.deref.ensures.value t.tile) ending _ _ _ _ c.in_ok-bench.bench c.make_calls.new.bench c.make_calls.new.picture _ _ _ (Ok tt)
    c.requires.judged c.requires.picture (rest_is t.cut.records.now t.taken) c.requires.text t.calls seat.window seat.seated seat.admitted c.in_ok-make_calls.ensures
