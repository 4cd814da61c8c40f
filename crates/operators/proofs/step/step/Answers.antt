use Rattle.std.proofs.Common.{◌≡◌, ◌∙◌, arith}
use Rattle.maps.specs.Grounds.{ground}
use Rattle.maps.specs.Windows.{pixels_of}
use Rattle.operators.proofs.Sweeping.{towards_lattice, sweeping_none, sweeping_more, sweeping_all}
use Rattle.operators.proofs.step.step.Goals as goal

pub loop-z-init : goal.loop-z-init
loop-z-init g c = sweeping_none (towards_lattice g.O.Operator.up g.met.S.Scale.lattice) c.copy_from_slice.ensures.after

pub loop-z-preserved : goal.loop-z-preserved
loop-z-preserved g c =
    sweeping_more (towards_lattice g.O.Operator.up g.met.S.Scale.lattice)
    c.loop-z.invariant c.spread.ensures.spare c.spread.auto.spare c.spread.ensures.marks

pub returns-clause-picture : goal.returns-clause-picture
returns-clause-picture g c =
    let tile = ground (g.C.Criterion.judgement c.args.criterion.now) c.args.map.now in
    let end : c.loop-z.z ≡ pixels_of c.args.map.now = omega (arith, c.requires.picture_fits, c.loop-z.auto.z-end) in
    c.copy_from_slice-2.ensures.after ∙ sweeping_all (towards_lattice g.O.Operator.up g.met.S.Scale.lattice) {g = tile} end c.loop-z.invariant
