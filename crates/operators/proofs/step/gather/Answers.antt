use Rattle.std.proofs.Common.{get_or}
use Rattle.morphology.proofs.Values.{at_getD, at_read}
use Rattle.operators.proofs.Listed.{gather_more, gather_all}
use Rattle.operators.proofs.Sweeping.{towards_lattice}
use Rattle.operators.proofs.step.gather.Goals as goal

pub loop-pixel-preserved : goal.loop-pixel-preserved
loop-pixel-preserved g c =
    let pixels = c.args.pixels.now in
    let i = c.loop-pixel.pixel-index in
    let more = c.loop-pixel-test.true in
    let value = at_read c.args.picture.now (get_or pixels i 0) _ (c.requires i more) c.index-picture-pixel.is in
    rw c.pick-all.ensures
    (gather_more (towards_lattice g.O.Operator.up g.met.S.Scale.lattice) (at_getD pixels i 0 more) value c.loop-pixel.invariant)

pub returns : goal.returns
returns g c = gather_all c.loop-pixel-test.false c.loop-pixel.invariant
