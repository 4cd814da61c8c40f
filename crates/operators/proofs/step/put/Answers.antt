use Rattle.std.proofs.Common.{◌<◌, length, get_or, arith}
use Rattle.morphology.proofs.Values.{at_getD, at_read}
use Rattle.operators.proofs.Listed.{put_none, put_more, put_all}
use Rattle.operators.proofs.step.put.Goals as goal

pub loop-pixel-init : goal.loop-pixel-init
loop-pixel-init g c = put_none

pub loop-pixel-preserved : goal.loop-pixel-preserved
loop-pixel-preserved g c =
    let pixels = c.args.pixels.now in
    let i = c.loop-pixel.pixel-index in
    let here = at_getD pixels i 0 c.loop-pixel-test.true in
    let within : get_or pixels i 0 < length c.loop-pixel.spare = omega (arith, c.requires.within i c.loop-pixel-test.true) in
    let value = at_read c.loop-pixel.spare (get_or pixels i 0) _ within c.index-spare-pixel.is in
    put_more c.requires.once here value c.pick.ensures c.loop-pixel.invariant

pub returns : goal.returns
returns g c = put_all c.loop-pixel-test.false c.loop-pixel.invariant
