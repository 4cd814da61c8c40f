use Rattle.std.proofs.Common.{◌≡◌, ◌∙◌, rules}
use Rattle.maps.specs.Windows.{window, window_of}
use Rattle.job_calls.proofs.Seats.{map_passes, admission}
use Rattle.job_calls.proofs.seating.seat_at.Goals as goal

pub returns-clause-admitted : goal.returns-clause-admitted
returns-clause-admitted g c =
    let h = c.args.head in
    let passes = map_passes h.width h.height h.joining _ c.requires.passed in
    let shows : window_of c.lay.new.map ≡ window c.args.values.now h.width h.height h.joining = search rules in
    admission (g.C.Criterion.judgement c.args.criterion.now) c.lay.new.map c.args.values.now h.width h.height h.joining shows passes.0 _ (c.requires.count ∙ passes.1)
    c.seat.result c.map_err.result c.args.number c.seat.ensures.fault (search rules)
