use Rattle.std.proofs.Common.{◌<◌, length, ap, subst, arith}
use Rattle.morphology.specs.Pictures.{At}
use Rattle.morphology.proofs.Values.{at_read}
use Rattle.neighbourhoods.proofs.values.value_at.Goals as goal

pub returns : goal.returns
returns g c =
    let within : c.args.pixel < length c.values.result.now = omega (arith, c.args.map.now.full, ap length c.values.ensures) in
    subst (λ xs. At xs c.args.pixel c.index-values-pixel.result) c.values.ensures (at_read c.values.result.now c.args.pixel _ within c.index-values-pixel.is)
