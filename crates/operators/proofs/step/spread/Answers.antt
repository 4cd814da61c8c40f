use Rattle.std.proofs.Common.{arith, rules}
use Rattle.morphology.proofs.Values.{at_read}
use Rattle.operators.proofs.Sweeping.{lists_within, spread_is}
use Rattle.operators.proofs.step.spread.Goals as goal

pub gather-v-requires : goal.gather-v-requires
gather-v-requires g c = lists_within c.flood_from-count.ensures.listed c.requires.ready.picture_fits

pub put-requires-clause-within : goal.put-requires-clause-within
put-requires-clause-within g c =
    let within = lists_within c.flood_from-count.ensures.listed c.requires.ready.spare_fits in
    search rules

pub returns-clause-spare : goal.returns-clause-spare
returns-clause-spare g c =
    let own = at_read c.args.picture.now c.args.z _ (omega (arith, c.requires.pixel, c.requires.ready.picture_fits)) c.index-picture-z.is in
    spread_is c.flood_from-count.ensures.listed own c.gather-v.ensures (search rules)
