use Rattle.maps.specs.Joinings.{number_of}
use Rattle.neighbourhoods.specs.Finds.{near_centre}
use Rattle.neighbourhoods.proofs.Visiting.{Expanding}
use Rattle.neighbourhoods.proofs.floods.expand.Given as goal

abbrev pub invariant-loop-step : goal.invariant-loop-step
invariant-loop-step g l =
    Expanding (near_centre (g.C.Criterion.judgement l.criterion) l.map l.centre) l.map.tile.width l.map.tile.height (number_of l.map.tile.joining) l.pixel
    (record { marks = l.initial.marks; queue = l.initial.queue; count = l.initial.count })
    l.step-index (record { marks = l.marks; queue = l.queue; count = l.count })
