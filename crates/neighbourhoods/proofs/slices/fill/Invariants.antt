use Rattle.std.proofs.Common.{◌≡◌, take, replicate}
use Rattle.neighbourhoods.proofs.slices.fill.Given as goal

abbrev pub invariant-loop-element : goal.invariant-loop-element
invariant-loop-element g l = take l.element-index l.slice ≡ replicate l.element-index l.value
