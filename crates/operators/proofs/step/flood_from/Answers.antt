use Rattle.std.proofs.Common.{subst, rules}
use Rattle.maps.specs.Grounds.{ground}
use Rattle.maps.specs.Windows.{pixels_of}
use Rattle.neighbourhoods.specs.Floods.{QueueAfter}
use Rattle.neighbourhoods.specs.Marks.{served}
use Rattle.neighbourhoods.proofs.Showing.{cleared}
use Rattle.operators.proofs.step.flood_from.Goals as goal

pub returns-clause-listed : goal.returns-clause-listed
returns-clause-listed g c =
    let g' = ground (g.C.Criterion.judgement c.args.criterion.now) c.args.map.now in
    let flooded = subst (QueueAfter g' c.args.z c.args.marks.now c.args.queue.now c.flood.new.queue) c.unwrap.ensures c.flood.ensures.queue_after in
    flooded.listed (cleared _ (pixels_of c.args.map.now) c.requires.clear)

pub unwrap-requires : goal.unwrap-requires
unfolding served
unwrap-requires g c = search rules
