use Rattle.std.proofs.Common.{◌≡◌, ◌-◌, sym, ap, ◌∙◌}
use lib.Bits.{bit_and}
use lib.Count.{ones}
use Rattle.scales.specs.Phases.{without}
use Rattle.scales.specs.Marks.{phase_gaps, and_rest}
use Rattle.scales.proofs.phases.lacking.Goals as goal

pub returns : goal.returns
returns c =
    let a = c.args.set in
    let b = c.args.other in
    let e : bit_and a (4294967295 - b) ≡ without a b = and_rest 32 a b c.ranges.set.fits c.ranges.other.fits in
    record { marks = e; only = λ z. phase_gaps.only (sym (ap ones e) ∙ z); none = λ w. ap ones e ∙ phase_gaps.none w }
