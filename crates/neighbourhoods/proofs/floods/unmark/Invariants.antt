use Rattle.std.proofs.Common.{◌≡◌, take}
use Rattle.neighbourhoods.specs.Finds.{unmark_all}
use Rattle.neighbourhoods.proofs.floods.unmark.Given as goal

abbrev pub invariant-loop-pixel : goal.invariant-loop-pixel
invariant-loop-pixel l = l.marks ≡ unmark_all l.initial.marks (take l.pixel-index l.pixels)
