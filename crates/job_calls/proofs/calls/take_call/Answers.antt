use Rattle.std.proofs.Common.{sym, ap, ◌∙◌}
use Rattle.records.specs.Encoding.{encoded, next_pixel}
use Rattle.records.proofs.Encodings.{only_written}
use Rattle.job_calls.proofs.calls.take_call.Goals as goal

pub returns : goal.returns
returns c =
    let bs = c.args.bytes.now in
    let p = c.args.reader.place in
    let t = c.in_ok-operation.ensures in
    only_written c.args.number p bs _ t.count t.byte (sym t.answer) ∙ ap (encoded (next_pixel p)) c.in-Call.is
