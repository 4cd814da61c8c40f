use Rattle.std.proofs.Common.{◌-◌, ◌*◌}
use Rattle.neighbourhoods.proofs.Turning.{Looping}
use Rattle.neighbourhoods.proofs.floods.spread.Given as goal

abbrev pub invariant-loop-done : goal.invariant-loop-done
invariant-loop-done g l =
    Looping (g.C.Criterion.judgement l.criterion) l.map l.z
    (record { marks = l.initial.marks; queue = l.initial.queue; count = l.initial.found })
    l.done (record { marks = l.marks; queue = l.queue; count = l.found })

abbrev pub decreases-loop-done : goal.decreases-loop-done
decreases-loop-done g l = l.map.tile.width * l.map.tile.height - l.done
