use Rattle.std.proofs.Common.{◌≡◌}
use Rattle.maps.specs.Windows.{pixels_of}
use Rattle.maps.specs.Grounds.{ground}
use Rattle.neighbourhoods.proofs.Drawing.{Shows}
use Rattle.neighbourhoods.proofs.Showing.{Held}
use Rattle.neighbourhoods.proofs.reach.show_symmetric.Given as goal

abbrev pub invariant-loop-z : goal.invariant-loop-z
invariant-loop-z g l =
    (l.marks ≡ l.initial.marks)
    × Shows (pixels_of l.map) (Held (ground (g.C.Criterion.judgement l.criterion) l.map) l.pixel l.z) l.sheet
