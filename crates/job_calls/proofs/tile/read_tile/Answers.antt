use Rattle.std.proofs.Common.{◌+◌, sym, refl, ap, ◌∙◌, arith}
use Rattle.std.proofs.lemmas.Result.{err_from_is_err_and}
use Rattle.job_calls.specs.Calling.{takes_calls}
use Rattle.job_calls.specs.Reading.{no_head}
use Rattle.job_calls.proofs.Tiles.{whole, goes_on, before_calls, bad_record, bad_end}
use Rattle.job_calls.proofs.tile.read_tile.Goals as goal

pub loop-number-init : goal.loop-number-init
loop-number-init c = rw (c.new-reader.ensures, c.new-bytes.ensures.map, c.new-bytes.ensures.picture) (no_head, refl)

pub returns-in_err-taken : goal.returns-in_err-taken
returns-in_err-taken c =
    let l = c.loop-number in
    let p = err_from_is_err_and c.from_residual.result c.from_residual.ensures.1 in
    rw (p.1, p.2) (bad_record c.args.cut.records.now l.number l.invariant.0 l.invariant.1 c.args.cut.left c.loop-number-test.true (sym c.in_err-taken.ensures.answer))

pub invariant_of-result-clause-tile : goal.invariant_of-result-clause-tile
invariant_of-result-clause-tile c =
    let l = c.loop-number in
    let t = c.in_ok-taken.ensures in
    let add = c.in_ok-add.ensures in
    let on = goes_on c.args.cut.records.now l.number l.invariant.0 l.invariant.1 c.loop-number-test.true (record { count = t.count; low = t.byte }) (sym t.answer) t.place add.map add.picture in
    let here = sym c.place.ensures ∙ c.in-Calls.is in
    whole c.args.cut.records.now (l.number + 1) c.in-Calls.head on here (omega arith) refl

pub loop-number-preserved : goal.loop-number-preserved
loop-number-preserved c =
    let l = c.loop-number in
    let t = c.in_ok-taken.ensures in
    let add = c.in_ok-add.ensures in
    let on = goes_on c.args.cut.records.now l.number l.invariant.0 l.invariant.1 c.loop-number-test.true (record { count = t.count; low = t.byte }) (sym t.answer) t.place add.map add.picture in
    (on, ap takes_calls (sym c.place.ensures) ∙ before_calls c.place.result c.in_default.not-Calls)

pub returns-in_err-end : goal.returns-in_err-end
returns-in_err-end c =
    let l = c.loop-number in
    let p = err_from_is_err_and c.from_residual-in_err-end.result c.from_residual-in_err-end.ensures.1 in
    rw (p.1, p.2) (bad_end c.args.cut.records.now l.number l.invariant.0 l.invariant.1 c.args.cut.left (omega arith) (sym c.in_err-end.ensures))
