use Rattle.std.proofs.Common.{◌≡◌, ◌%◌, ◌^◌, ◌∙◌, rules}
use lib.Bits.{and_mask, and_zero_l}
use Rattle.scales.specs.Marks.{within_of}
use Rattle.scales.proofs.phases.U32Scale.bounded.Goals as goal

pub returns : goal.returns
returns c =
    let small : c.args.self % 2 ^ 32 ≡ c.args.self = search rules in
    record { low = within_of _ _ (and_zero_l c.args.self); high = within_of _ _ (and_mask c.args.self 32 ∙ small) }
